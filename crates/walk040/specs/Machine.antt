-- The 68040 walk as a machine: what is known before a long, and what the long decides.
-- This serves the code alone; the meaning is `Walk040` of `definition`.
use Rattle.std.specs.Prelude.{ℕ, ◌+◌, ◌*◌, ◌/◌, ◌%◌, Bool, true, false, not, ◌||◌, ltb, eqb}
use Rattle.definition.specs.Words.{bit_of}
use Rattle.definition.specs.Walk040.{pointer_at, page_at}
use Rattle.definition.specs.declared.End040.{End040}
use Rattle.definition.specs.declared.FaultCause.{FaultCause}
use Rattle.definition.specs.declared.FaultCause.TheVariants as cause
use Rattle.walk040.specs.declared.machine.Level.{Level}
use Rattle.walk040.specs.declared.machine.Level.TheVariants as level
use Rattle.walk040.specs.declared.Walked040.{Walked040}
use Rattle.walk040.specs.declared.machine.Walking040.{Walking040}

-- a long of this level is asked for next
abbrev pub onward040 : Level → Bool → ℕ → ℕ → Walking040
onward040 next wp at asked = record { level = next; wp = wp; at = at; asked = asked }

abbrev pub begin040 : ℕ → Walking040
begin040 at = onward040 level.Root false at 0

-- the long x of a level is invalid, and what that is called
abbrev pub invalid040 : Level → ℕ → Bool
invalid040 level.Root x = ltb (x % 4) 2
invalid040 level.Pointer x = ltb (x % 4) 2
invalid040 level.Page x = eqb (x % 4) 0
invalid040 level.Target x = eqb (x % 4) 0

abbrev pub missing040 : Level → FaultCause
missing040 level.Root = cause.PointerA
missing040 level.Pointer = cause.PointerB
missing040 level.Page = cause.PageFault
missing040 level.Target = cause.Indirect

-- or else it is a page
abbrev pub page040 : Level → ℕ → Bool
page040 level.Root x = false
page040 level.Pointer x = false
page040 level.Page x = not (eqb (x % 4) 2)
page040 level.Target x = true

-- or else it leads on; a target never does
unfoldable pub next040 : ℕ → ℕ → Level → Bool → ℕ → ℕ → Walking040
next040 tc address level.Root wp x asked = onward040 level.Pointer (wp || bit_of x 2) (pointer_at x address) asked
next040 tc address level.Pointer wp x asked = onward040 level.Page (wp || bit_of x 2) (page_at tc x address) asked
next040 tc address level.Page wp x asked = onward040 level.Target wp (x / 4 * 4) asked
next040 tc address level.Target wp x asked = onward040 level.Target wp (x / 4 * 4) asked

-- the walk ended at the long that is asked for here
abbrev pub answered040 : Walking040 → End040 → Walked040
answered040 s e = record { end = e; asked = s.asked + 1 }
