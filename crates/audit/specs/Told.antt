-- What is said of one entry, from its two numbers. It serves the code alone; the meaning is `finding` of `definition`.
use Rattle.std.specs.Prelude.{ℕ, ◌/◌, ◌%◌, Bool, false, not, ◌&&◌, ◌||◌, eqb, Option, Some, None}
use Rattle.std.specs.Prelude.{if◌then◌else◌}
use Rattle.definition.specs.Words.{bit_of}
use Rattle.definition.specs.Registers.{code_of}
use Rattle.definition.specs.Audit.{plain_access}
use Rattle.definition.specs.declared.Registers.{Registers}
use Rattle.definition.specs.declared.Access.{Access}
use Rattle.definition.specs.declared.Translation.{Translation}
use Rattle.definition.specs.declared.Finding.{Finding}
use Rattle.cache.specs.Packed.{odd}
use Rattle.audit.specs.declared.Cached.{Cached}
use Rattle.audit.specs.Machine.{address_for}

unfoldable pub code_for : Registers → Cached → ℕ
code_for g x = if eqb g.family 30 then x.key / 2 % 8 else code_of (odd (x.key / 2)) false

-- what a valid entry gives an access with its key
abbrev pub permits030 : ℕ → Bool → Option ℕ
permits030 p write = if write && odd p then None else Some (p / 2)

abbrev pub permits040 : ℕ → Bool → Bool → Option ℕ
permits040 b supervisor write = if write && odd (b / 2) || not supervisor && odd b then None else Some (b / 4)

unfoldable pub hit_for : Registers → Cached → Bool → Option ℕ
hit_for g x write =
    if odd x.key
    then (if eqb g.family 30 then permits030 x.page write else permits040 x.page (odd (x.key / 2)) write)
    else None

unfoldable pub access_for : Registers → Cached → Bool → Access
access_for g x write = plain_access (bit_of (code_for g x) 2) (eqb (code_for g x % 4) 2) write (address_for g x)

unfoldable pub told_of : Registers → Cached → Bool → ℕ → Translation → Finding
told_of g x write n tables =
    if eqb n 0 then Finding.Says (address_for g x) (code_for g x) (hit_for g x write) tables else Finding.Refused n
