-- Laws of lists: what is one of them, what all of them are, and where the first that passes stands. Assumes nothing.
use Prim.Native.Nat.{ℕ, zero, suc, ◌≤◌, ◌<◌, zero-le, suc-le-suc}
use mathlib.Core.Path.{◌≡◌, refl}
use mathlib.Core.List.{List, [], ◌∷◌, ◌++◌, map}
use mathlib.Core.Bool.{Bool, true, false}
use mathlib.Core.Logic.{◌⊎◌, inl, inr}
use native.Mathlib.Nat.{le_refl, le_of_suc-le-suc, not-suc-le-zero}
use native.Mathlib.Omega.{arith}
use native.Mathlib.Decide.{dec_le}
use lib.ListN.{length, get_or, set, replicate, get_or-eq_default}
use Rattle.std.specs.Prelude.{if◌then◌else◌}
use Rattle.definition.specs.Words.{all_of, first_of}
use Rattle.definition.proofs.Replay.{In}
use Rattle.definition.proofs.Choice.{and_left, and_right}

-- ---- one of them
pub in_left : {X : Type 0} (x : X) (l r : List X) → In x l → In x (l ++ r)
in_left {X = X} x [] r x'' = elim x'' [ ]
in_left x (y ∷ l) r (inl e) = inl e
in_left x (y ∷ l) r (inr i) = inr (in_left x l r i)

pub in_right : {X : Type 0} (x : X) (l r : List X) → In x r → In x (l ++ r)
in_right x [] r i = i
in_right x (y ∷ l) r i = inr (in_right x l r i)

pub in_either : {X : Type 0} (x : X) (l r : List X) → In x (l ++ r) → In x l ⊎ In x r
in_either x [] r i = inr i
in_either x (y ∷ l) r (inl e) = inl (inl e)
in_either x (y ∷ l) r (inr i) = go (in_either x l r i)
  where
    go : In x l ⊎ In x r → In x (y ∷ l) ⊎ In x r
    go (inl i) = inl (inr i)
    go (inr i) = inr i

-- ---- all of them
abbrev pub All : {X : Type 0} → (X → Type 0) → List X → Type 0
All P [] = Unit {0}
All P (x ∷ l) = P x × All P l

module _ {X : Type 0} (P : X → Type 0) where
  pub all_set : (l : List X) (i : ℕ) (x : X) → P x → All P l → All P (set l i x)
  all_set [] i x p a = tt
  all_set (y ∷ l) zero x p a = (p, a.1)
  all_set (y ∷ l) (suc i) x p a = (a.0, all_set l i x p a.1)

  pub all_get : (l : List X) (i : ℕ) (d : X) → P d → All P l → P (get_or l i d)
  all_get [] i d p a = p
  all_get (y ∷ l) zero d p a = a.0
  all_get (y ∷ l) (suc i) d p a = all_get l i d p a.1

  pub all_replicate : (n : ℕ) (x : X) → P x → All P (replicate n x)
  all_replicate zero x p = tt
  all_replicate (suc n) x p = (p, all_replicate n x p)

  pub all_index : (l : List X) (d : X) → ((i : ℕ) → P (get_or l i d)) → All P l
  all_index [] d h = tt
  all_index (x ∷ l) d h = (h 0, all_index l d (λ i. h (suc i)))

  pub all_by : (Q : X → Type 0) → ((x : X) → P x → Q x) → (l : List X) → All P l → All Q l
  all_by Q h [] a = tt
  all_by Q h (x ∷ l) a = (h x a.0, all_by Q h l a.1)

  pub all_both : (l r : List X) → All P l → All P r → All P (l ++ r)
  all_both [] r a b = b
  all_both (x ∷ l) r a b = (a.0, all_both l r a.1 b)

  pub all_at : (l : List X) (x : X) → In x l → All P l → P x
  all_at [] x x4 a = elim x4 [ ]
  all_at (y ∷ l) x (inl e) a = rw e a.0
  all_at (y ∷ l) x (inr i) a = all_at l x i a.1

pub all_map : {X Y : Type 0} (P : X → Type 0) (Q : Y → Type 0) (f : X → Y) → ((x : X) → P x → Q (f x)) → (l : List X) → All P l
    → All Q (map f l)
all_map P Q f h [] a = tt
all_map P Q f h (x ∷ l) a = (h x a.0, all_map P Q f h l a.1)

-- each of them, made anew, is so whatever it was
pub all_made : {X Y : Type 0} (Q : Y → Type 0) (f : X → Y) → ((x : X) → Q (f x)) → (l : List X) → All Q (map f l)
all_made Q f h [] = tt
all_made Q f h (x ∷ l) = (h x, all_made Q f h l)

-- ---- two lists, one beside the other
-- as many of the one as of the other, and R holds of the first of each, the second of each, and so on
abbrev pub Paired : {X Y : Type 0} → (X → Y → Type 0) → List X → List Y → Type 0
Paired R [] [] = Unit {0}
Paired R [] (y ∷ l') = ⊥
Paired R (x ∷ l) [] = ⊥
Paired R (x ∷ l) (y ∷ l') = R x y × Paired R l l'

-- two lists with the same keys in order, where R holds of any two with equal keys
pub paired_by : {X Y K : Type 0} (R : X → Y → Type 0) (key : X → K) (key' : Y → K) (l : List X) (l' : List Y) → map key l ≡ map key' l'
    → ((x : X) (y : Y) → In x l → In y l' → key x ≡ key' y → R x y) → Paired R l l'
paired_by R key key' [] [] e h = tt
paired_by R key key' [] (y ∷ l') e h = let z : ◌≡◌ {A = ℕ} 0 1 = cc in absurd (omega arith)
paired_by R key key' (x ∷ l) [] e h = let z : ◌≡◌ {A = ℕ} 0 1 = cc in absurd (omega arith)
paired_by R key key' (x ∷ l) (y ∷ l') e h =
    let one : key x ≡ key' y = cc in
    let more : map key l ≡ map key' l' = cc in
    (h x y (inl refl) (inl refl) one, paired_by R key key' l l' more (λ z z' i i'. h z z' (inr i) (inr i')))

-- ---- the first that passes
module _ {X : Type 0} (p : X → Bool) where
  pub first_passes : (l : List X) (d : X) → first_of p l < length l → p (get_or l (first_of p l) d) ≡ true
  unfolding first_of
  first_passes [] d h = absurd (not-suc-le-zero h)
  first_passes (x ∷ l) d h = go (p x) refl h (first_passes l d)
    where
      go : (b : Bool) → p x ≡ b → (if b then zero else suc (first_of p l)) < suc (length l)
          → (first_of p l < length l → p (get_or l (first_of p l) d) ≡ true) → p (get_or (x ∷ l) (if b then zero else suc (first_of p l)) d) ≡ true
      go true e h k = e
      go false e h k = k (le_of_suc-le-suc h)

  pub first_within : (l : List X) (x : X) → In x l → p x ≡ true → first_of p l < length l
  unfolding first_of
  first_within [] x x4 t = elim x4 [ ]
  first_within (y ∷ l) x (inl e) t = rw (← e, t) (suc-le-suc zero-le)
  first_within (y ∷ l) x (inr i) t = go (p y) (first_within l x i t)
    where
      go : (b : Bool) → first_of p l < length l → (if b then zero else suc (first_of p l)) < suc (length l)
      go true h = suc-le-suc zero-le
      go false h = suc-le-suc h

  -- none before it passes, and none at all where it is the list's end
  pub first_least : (l : List X) (d : X) (j : ℕ) → j < first_of p l → p (get_or l j d) ≡ false
  unfolding first_of
  first_least [] d j h = absurd (not-suc-le-zero h)
  first_least (x ∷ l) d j h = go (p x) refl j h (λ k. first_least l d k)
    where
      go : (b : Bool) → p x ≡ b → (j : ℕ) → j < (if b then zero else suc (first_of p l)) → ((k : ℕ) → k < first_of p l → p (get_or l k d) ≡ false)
          → p (get_or (x ∷ l) j d) ≡ false
      go true e j h more = absurd (not-suc-le-zero h)
      go false e zero h more = e
      go false e (suc j) h more = more j (le_of_suc-le-suc h)

  pub none_passes : (l : List X) (d : X) → p d ≡ false → length l ≤ first_of p l → (j : ℕ) → p (get_or l j d) ≡ false
  none_passes l d none h j = choose (dec_le (length l) j)
    where
      choose : Dec (length l ≤ j) → p (get_or l j d) ≡ false
      choose (yes k) = rw (get_or-eq_default l d k) none
      choose (no k) = first_least l d j (omega arith)

  pub all_passed : (l : List X) → all_of p l ≡ true → All (λ (x : X). p x ≡ true) l
  unfolding all_of
  all_passed [] e = tt
  all_passed (x ∷ l) e = (and_left (p x) (all_of p l) e, all_passed l (and_right (p x) (all_of p l) e))

  pub all_pass : (l : List X) → ((x : X) → In x l → p x ≡ true) → all_of p l ≡ true
  unfolding all_of
  all_pass [] h = refl
  all_pass (x ∷ l) h = rw (h x (inl refl)) (all_pass l (λ y i. h y (inr i)))

-- ---- the smallest
-- x is one of l, and none has a smaller number
pub record Least {X : Type 0} (number : X → ℕ) (l : List X) (x : X) : Type 0 where
  pub one : In x l
  pub lowest : (y : X) → In y l → number x ≤ number y

module _ {X : Type 0} (number : X → ℕ) where
  least_one : (x : X) → Least number (x ∷ []) x
  least_one x = record { one = inl refl; lowest = below }
    where
      below : (y : X) → In y (x ∷ []) → number x ≤ number y
      below y (inr x'') = elim x'' [ ]
      below y (inl e) = rw e (le_refl (number x))

  least_new : (x y : X) (l : List X) → number x ≤ number y → Least number l y → Least number (x ∷ l) x
  least_new x y l h k = record { one = inl refl; lowest = below }
    where
      below : (z : X) → In z (x ∷ l) → number x ≤ number z
      below z (inl e) = rw e (le_refl (number x))
      below z (inr i) = omega (arith, k.lowest z i)

  least_kept : (x y : X) (l : List X) → number y ≤ number x → Least number l y → Least number (x ∷ l) y
  least_kept x y l h k = record { one = inr k.one; lowest = below }
    where
      below : (z : X) → In z (x ∷ l) → number y ≤ number z
      below z (inl e) = rw e h
      below z (inr i) = k.lowest z i

  pub least_of : (x : X) (l : List X) → (y : X) × Least number (x ∷ l) y
  least_of x [] = (x, least_one x)
  least_of x (y ∷ l) = go (least_of y l)
    where
      go : (z : X) × Least number (y ∷ l) z → (z : X) × Least number (x ∷ y ∷ l) z
      go k = choose (dec_le (number x) (number k.0))
        where
          choose : Dec (number x ≤ number k.0) → (z : X) × Least number (x ∷ y ∷ l) z
          choose (yes h) = (x, least_new x k.0 (y ∷ l) h k.1)
          choose (no h) = (k.0, least_kept x k.0 (y ∷ l) (omega arith) k.1)
