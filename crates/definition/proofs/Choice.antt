-- Laws of choice: what holds of the sides of an `if` holds of it; what tests that pass tell. Assumes nothing.
use mathlib.Core.Path.{◌≡◌, refl}
use mathlib.Core.Bool.{Bool, true, false, ◌&&◌, ◌||◌, false≢true, true≢false}
use Rattle.std.specs.Prelude.{if◌then◌else◌}
use Rattle.definition.specs.Cache040.{same_bool}

-- what holds of each side, where its test gives it, holds of the choice
pub if_by : {A : Type 0} (P : A → Type 0) (b : Bool) (x y : A) → (b ≡ true → P x) → (b ≡ false → P y) → P (if b then x else y)
if_by P true x y h k = h refl
if_by P false x y h k = k refl

pub if_both : {A : Type 0} (P : A → Type 0) (b : Bool) (x y : A) → P x → P y → P (if b then x else y)
if_both P b x y h k = if_by P b x y (λ _. h) (λ _. k)

-- two choices by one test look alike through f where their sides do
pub if_alike : {A B : Type 0} (f : A → B) (b : Bool) (x y x' y' : A) → (b ≡ true → f x ≡ f x') → (b ≡ false → f y ≡ f y')
    → f (if b then x else y) ≡ f (if b then x' else y')
if_alike f true x y x' y' h k = h refl
if_alike f false x y x' y' h k = k refl

-- the same, given what the side that is taken gives
pub if_given_by : {A B : Type 0} (Q : A → Type 0) (f : A → B) (b : Bool) (x y x' y' : A) → (b ≡ true → Q x → f x ≡ f x') → (b ≡ false → Q y → f y ≡ f y')
    → Q (if b then x else y) → f (if b then x else y) ≡ f (if b then x' else y')
if_given_by Q f true x y x' y' h k q = h refl q
if_given_by Q f false x y x' y' h k q = k refl q

pub if_given : {A B : Type 0} (Q : A → Type 0) (f : A → B) (b : Bool) (x y x' y' : A) → (Q x → f x ≡ f x') → (Q y → f y ≡ f y')
    → Q (if b then x else y) → f (if b then x else y) ≡ f (if b then x' else y')
if_given Q f b x y x' y' h k = if_given_by Q f b x y x' y' (λ _. h) (λ _. k)

-- ---- tests
pub and_left : (a b : Bool) → (a && b) ≡ true → a ≡ true
and_left true b e = refl
and_left false b e = e

pub and_right : (a b : Bool) → (a && b) ≡ true → b ≡ true
and_right true b e = e
and_right false b e = absurd (false≢true e)

pub and_no : (a b : Bool) → b ≡ false → (a && b) ≡ false
and_no true b e = e
and_no false b e = refl

pub or_left : (a b : Bool) → (a || b) ≡ false → a ≡ false
or_left true b e = e
or_left false b e = refl

pub or_right : (a b : Bool) → (a || b) ≡ false → b ≡ false
or_right true b e = absurd (true≢false e)
or_right false b e = e

pub same_bool_lem : (a b : Bool) → same_bool a b ≡ true → a ≡ b
same_bool_lem true true e = refl
same_bool_lem true false e = absurd (false≢true e)
same_bool_lem false true e = absurd (false≢true e)
same_bool_lem false false e = refl
