-- A table and a target by the descriptor as the code is given it. This serves the code alone; the meaning is `seen_by` of `definition`.
use Rattle.std.specs.Prelude.{ℕ, ◌*◌, ◌/◌, Bool, ◌||◌, Result, Ok, Err}
use Rattle.definition.specs.List.{page_at, lost_at}
use Rattle.definition.specs.declared.Node.{Node}
use Rattle.definition.specs.declared.Seen.{Seen}
use Rattle.definition.specs.declared.Seen.TheVariants.{Nothing, One}
use Rattle.memory.specs.declared.descriptor.Descriptor.{Descriptor}
use Rattle.memory.specs.declared.descriptor.Kind.{Kind}
use Rattle.memory.specs.declared.descriptor.Kind.TheVariants.{Invalid, Page, Table}
use Rattle.memory.specs.declared.descriptor.Lost.{Lost}

-- the table that an entry names, of long descriptors or of short ones
abbrev pub opened : Node → Bool → ℕ → Bool → Bool → Node
opened e long field wp sup =
    record {
      at = field / 16 * 16;
      long = long;
      first = e.first;
      consumed = e.consumed;
      wp = e.wp || wp;
      sup = e.sup || sup;
    }

abbrev pub page_or : Kind → Seen → Seen
page_or Invalid page = Nothing
page_or Page page = page
page_or (Table long) page = Nothing

abbrev pub target_by : Node → Result Descriptor Lost → Seen
target_by e (Err lost) = One (lost_at e)
target_by e (Ok d) = page_or d.kind (One (page_at e d.field d.wp d.sup))
