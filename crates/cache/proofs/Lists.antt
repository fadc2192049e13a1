-- Laws of lists of numbers: what a search, a minimum, a count and a change in place have shown at the end of their loops.
use Rattle.std.specs.Prelude.{if◌then◌else◌}
use Prim.Native.Nat.{ℕ, zero, suc, ◌+◌, ◌-◌, ◌≤◌, ◌<◌, zero-le, suc-le-suc}
use mathlib.Core.Path.{◌≡◌, refl, ap, sym, ◌∙◌}
use mathlib.Core.Bool.{Bool, true, false, and-false}
use mathlib.Core.List.{List, [], ◌∷◌, map}
use native.Mathlib.Nat.{le_of_suc-le-suc, not-suc-le-zero}
use native.Mathlib.Omega.{arith}
use native.Mathlib.Numerals.{add-one}
use borrow.Author.Tests.{le-leb, lt-leb}
use borrow.Author.Count.{below_none, below_more}
use lib.Dec.{leb}
use lib.ListN.{length, get_or, set, drop, drop_of_length-le}
use lib.Seq.{drop-cons}
use Rattle.std.specs.List.{count_by, position_or_len}
use Rattle.std.proofs.lemmas.List.Recursion.{is_count_by, is_position_or_len}
use Rattle.std.proofs.lemmas.List.Sums.{position_or_len_is}
use Rattle.definition.specs.Words.{first_of, count_of, all_of}

-- ---- a test that goes by a number of each element
module _ {A : Type 0} (q : ℕ → Bool) (g : A → ℕ) where
  pub first_map : (l : List A) → first_of (λ (e : A). q (g e)) l ≡ first_of q (map g l)
  unfolding first_of
  first_map [] = refl
  first_map (x ∷ xs) = rw (first_map xs)

  pub count_map : (l : List A) → count_of (λ (e : A). q (g e)) l ≡ count_of q (map g l)
  unfolding count_of
  count_map [] = refl
  count_map (x ∷ xs) = rw (count_map xs)

  pub all_map : (l : List A) → all_of (λ (e : A). q (g e)) l ≡ all_of q (map g l)
  unfolding all_of
  all_map [] = refl
  all_map (x ∷ xs) = rw (all_map xs)

-- ---- searches and counts
module _ (p : ℕ → Bool) where
  first_is_position : (l : List ℕ) → first_of p l ≡ position_or_len p l
  unfolding first_of
  first_is_position l = is_position_or_len (first_of p) p refl (λ x xs. go (p x) (first_of p xs)) l
    where
      go : (b : Bool) (n : ℕ) → (if b then zero else suc n) ≡ (if b then 0 else 1 + n)
      go true n = refl
      go false n = omega arith

  -- r is the first of n that passes
  pub first_is : (l : List ℕ) (n r y : ℕ) → length l ≡ n → r < n → y ≡ get_or l r 0 → p y ≡ true → ((k : ℕ) → k < r → p (get_or l k 0) ≡ false) → r ≡ first_of p l
  first_is l n r y e h a t f = sym (first_is_position l ∙ position_or_len_is p l r 0 (omega arith) f (λ _. rw a at t))

  -- one more does not pass
  pub first_past : (l : List ℕ) (i y : ℕ) → y ≡ get_or l i 0 → p y ≡ false → ((k : ℕ) → k < i → p (get_or l k 0) ≡ false) → (k : ℕ) → k < i + 1 → p (get_or l k 0) ≡ false
  first_past l i y a t f = below_more (λ (k : ℕ). p (get_or l k 0) ≡ false) i f (rw a at t)

  -- none of n passes
  pub first_none : (l : List ℕ) (n i : ℕ) → length l ≡ n → n ≤ i → ((k : ℕ) → k < i → p (get_or l k 0) ≡ false) → n ≡ first_of p l
  first_none l n i e h f = sym (first_is_position l ∙ position_or_len_is p l n 0 (omega arith) (λ k q. f k (omega arith)) (λ q. absurd (omega arith)))

  -- a search from the end: what the elements from i - 1 on say, by those from i on
  pub down_none : (l : List ℕ) (n : ℕ) → length l ≡ n → n ≡ n + first_of p (drop n l)
  unfolding first_of
  down_none l n e = rw (drop_of_length-le l {i = n} (omega arith)) (omega arith)

  module _ (l : List ℕ) (i : ℕ) (h : 0 < i) (k : i ≤ length l) where
    down_cons : drop (i - 1) l ≡ get_or l (i - 1) 0 ∷ drop i l
    down_cons =
        let e : suc (i - 1) ≡ i = omega arith in
        rw (drop-cons l (i - 1) 0 (omega arith), e)

    pub down_here : (y : ℕ) → y ≡ get_or l (i - 1) 0 → p y ≡ true → i - 1 ≡ i - 1 + first_of p (drop (i - 1) l)
    unfolding first_of
    down_here y a t = rw (down_cons, ← a, t) (omega arith)

    pub down_past : (found y : ℕ) → y ≡ get_or l (i - 1) 0 → p y ≡ false → found ≡ i + first_of p (drop i l) → found ≡ i - 1 + first_of p (drop (i - 1) l)
    unfolding first_of
    down_past found y a t e = rw (down_cons, ← a, t) (omega arith)

  all_true : (l : List ℕ) → ((k : ℕ) → k < length l → p (get_or l k 0) ≡ true) → all_of p l ≡ true
  unfolding all_of
  all_true [] f = refl
  all_true (x ∷ xs) f = rw (f 0 (suc-le-suc zero-le)) (all_true xs (λ k q. f (suc k) (suc-le-suc q)))

  all_false : (l : List ℕ) (k : ℕ) → k < length l → p (get_or l k 0) ≡ false → all_of p l ≡ false
  unfolding all_of
  all_false [] k h e = absurd (not-suc-le-zero h)
  all_false (x ∷ xs) zero h e = rw e
  all_false (x ∷ xs) (suc k) h e = rw (all_false xs k (le_of_suc-le-suc h) e) (and-false (p x))

-- a count, as the library says it
pub count_by_is : (p : ℕ → Bool) (l : List ℕ) → count_of p l ≡ count_by p l
unfolding count_of
count_by_is p l = is_count_by (count_of p) p refl (λ x xs. go (p x) (count_of p xs)) l
  where
    go : (b : Bool) (n : ℕ) → (if b then suc n else n) ≡ (if b then 1 + n else n)
    go true n = omega arith
    go false n = refl

-- ---- the smallest
-- x stands at b, is at most each of the first i, and less than each before b
pub record Least (l : List ℕ) (i b x : ℕ) : Type 0 where
  pub is : x ≡ get_or l b 0
  pub lows : (k : ℕ) → k < i → x ≤ get_or l k 0
  pub first : (k : ℕ) → k < b → x < get_or l k 0

pub least_start : (l : List ℕ) (x : ℕ) → x ≡ get_or l 0 0 → Least l 0 0 x
least_start l x a = record { is = a; lows = below_none (λ (k : ℕ). x ≤ get_or l k 0); first = below_none (λ (k : ℕ). x < get_or l k 0) }

pub least_new : (l : List ℕ) (i b x y : ℕ) → y ≡ get_or l i 0 → y < x → Least l i b x → Least l (i + 1) i y
least_new l i b x y a h r =
    record {
      is = a;
      lows = below_more (λ (k : ℕ). y ≤ get_or l k 0) i (λ k q. omega (arith, r.lows k q)) (omega arith);
      first = λ k q. omega (arith, r.lows k q);
    }

pub least_keep : (l : List ℕ) (i b x y : ℕ) → y ≡ get_or l i 0 → x ≤ y → Least l i b x → Least l (i + 1) b x
least_keep l i b x y a h r =
    record {
      is = r.is;
      lows = below_more (λ (k : ℕ). x ≤ get_or l k 0) i r.lows (omega arith);
      first = r.first;
    }

pub least_is : (l : List ℕ) (n b x : ℕ) → length l ≡ n → b < n → Least l n b x → b ≡ first_of (λ (x : ℕ). all_of (λ (y : ℕ). leb x y) l) l
least_is l n b x e h r =
    first_is (λ (x : ℕ). all_of (λ (y : ℕ). leb x y) l) l n b (get_or l b 0) e h refl
    (all_true (λ (y : ℕ). leb (get_or l b 0) y) l (λ k q. le-leb _ _ (rw r.is at (r.lows k (rw e at q)))))
    (λ k q. all_false (λ (y : ℕ). leb (get_or l k 0) y) l b (rw e h) (lt-leb _ _ (rw r.is at (r.first k q))))

-- ---- changes in place
-- the first i elements through f, the others as they are
unfoldable pub map_to : (ℕ → ℕ) → ℕ → List ℕ → List ℕ
map_to f zero l = l
map_to f (suc i) [] = []
map_to f (suc i) (x ∷ xs) = f x ∷ map_to f i xs

module _ (f : ℕ → ℕ) where
  pub map_to_none : (l : List ℕ) → map_to f 0 l ≡ l
  unfolding map_to
  map_to_none l = refl

  step : (l : List ℕ) (i : ℕ) → set (map_to f i l) i (f (get_or l i 0)) ≡ map_to f (suc i) l
  unfolding map_to
  step [] zero = refl
  step [] (suc i) = refl
  step (x ∷ xs) zero = refl
  step (x ∷ xs) (suc i) = ap (λ (l : List ℕ). f x ∷ l) (step xs i)

  pub map_to_more : (l : List ℕ) (i : ℕ) → set (map_to f i l) i (f (get_or l i 0)) ≡ map_to f (i + 1) l
  map_to_more l i = rw add-one (step l i)

  all : (l : List ℕ) → map_to f (length l) l ≡ map f l
  unfolding map_to
  all [] = refl
  all (x ∷ xs) = ap (λ (l : List ℕ). f x ∷ l) (all xs)

  pub map_to_all : (l : List ℕ) (n i : ℕ) → length l ≡ n → i ≡ n → map_to f i l ≡ map f l
  map_to_all l n i e h = rw (h, ← e) (all l)

  -- what is not yet reached is as it was
  pub map_to_next : (l : List ℕ) (i : ℕ) → get_or (map_to f i l) i 0 ≡ get_or l i 0
  unfolding map_to
  map_to_next [] zero = refl
  map_to_next [] (suc i) = refl
  map_to_next (x ∷ xs) zero = refl
  map_to_next (x ∷ xs) (suc i) = map_to_next xs i

  -- a turn of a loop that puts f of each element in its place
  pub map_to_put : (l l' : List ℕ) (i r : ℕ) → l' ≡ map_to f i l → r ≡ f (get_or l' i 0) → set l' i r ≡ map_to f (i + 1) l
  map_to_put l l' i r e h = rw (h, e, map_to_next l i) (map_to_more l i)
