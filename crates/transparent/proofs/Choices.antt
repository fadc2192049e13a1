-- What a test, and the value after it, say of a conjunction and a disjunction. Assumes nothing.
use mathlib.Core.Path.{◌≡◌, refl, subst}
use mathlib.Core.Bool.{Bool, true, false, ◌&&◌, ◌||◌}
use lib.Dec.{T}

module _ {x a : Bool} where
  pub and_then : {y b : Bool} → x ≡ true → x ≡ a → y ≡ b → y ≡ (a && b)
  and_then t e f = rw (← e, t) f

  pub and_not : (b : Bool) → x ≡ false → x ≡ a → false ≡ (a && b)
  and_not b t e = rw (← e, t)

  pub or_at_once : (b : Bool) → x ≡ true → x ≡ a → true ≡ (a || b)
  or_at_once b t e = rw (← e, t)

  pub or_then : {y b : Bool} → x ≡ false → x ≡ a → y ≡ b → y ≡ (a || b)
  or_then t e f = rw (← e, t) f

pub neither : (a b : Bool) → (a || b) ≡ false → (a ≡ false) × (b ≡ false)
neither false b h = (refl, h)
neither true b h = absurd (subst T h tt)
