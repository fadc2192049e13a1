-- One 68030 descriptor as the code reads it. This serves the code alone; the meaning is `Walk030` of `definition`.
use Rattle.std.specs.Prelude.{ℕ, ◌%◌, Bool, ◌&&◌, length, eqb, Result, Ok, Err}
use Rattle.definition.specs.Words.{bit_of}
use Rattle.definition.specs.Walk030.{by_kind}
use Rattle.definition.specs.Walk030 as walk030
use Rattle.memory.specs.declared.descriptor.Descriptor.{Descriptor}
use Rattle.memory.specs.declared.descriptor.Kind.{Kind}
use Rattle.memory.specs.declared.descriptor.Kind.TheVariants.{Invalid, Page, Table}
use Rattle.memory.specs.declared.descriptor.Lost.{Lost}

-- a type by its number
abbrev pub kind_of : ℕ → Kind
kind_of n = by_kind n Invalid Page (Table (eqb n 3))

-- the definition's descriptor as the code gives it, with the number of the longs asked for
abbrev pub shown_read : walk030.Descriptor → Result Descriptor Lost
shown_read (walk030.Whole kind field wp sup asked) =
    Ok (record { kind = kind_of kind; field = field; wp = wp; sup = sup; asked = length asked })
shown_read (walk030.Lost at asked) = Err (record { at = at; asked = length asked })

-- a descriptor by its first long and its address field, for which n longs were asked
abbrev pub described_of : ℕ → ℕ → Bool → ℕ → Descriptor
described_of first field long n =
    record { kind = kind_of (first % 4); field = field; wp = bit_of first 2; sup = long && bit_of first 8; asked = n }
