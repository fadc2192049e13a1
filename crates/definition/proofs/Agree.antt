-- Two memories that give the same at the longs that a walk asks for. Assumes nothing.
use Prim.Native.Nat.{ℕ}
use mathlib.Core.Path.{◌≡◌}
use mathlib.Core.List.{List}
use mathlib.Core.Bool.{Bool}
use Rattle.std.specs.Prelude.{if◌then◌else◌}
use Rattle.definition.specs.Memory.{Memory, fetch_of}
use Rattle.definition.proofs.Replay.{In}
use Rattle.definition.proofs.Choice.{if_given}

-- the two memories give the same, value or bus error, at each address of l
abbrev pub Agree : Memory → Memory → List ℕ → Type 0
Agree m m' l = (a : ℕ) → In a l → fetch_of m a ≡ fetch_of m' a

-- each memory of P gives the same as m there
abbrev pub Throughout : (Memory → Type 0) → Memory → List ℕ → Type 0
Throughout P m l = (m' : Memory) → P m' → Agree m m' l

-- a choice ends alike where the side that is taken does
pub if_same : {O : Type 0} (asked : O → List ℕ) (m m' : Memory) (b : Bool) (x y x' y' : O) → (Agree m m' (asked x) → x ≡ x')
    → (Agree m m' (asked y) → y ≡ y') → Agree m m' (asked (if b then x else y)) → (if b then x else y) ≡ (if b then x' else y')
if_same {O} asked m m' = if_given (λ (o : O). Agree m m' (asked o)) (λ (o : O). o)
