-- Writing ranges one by one, in a row, from an address on, and up to the room there is. Assumes nothing.
use Prim.Native.Nat.{ℕ, zero, suc, ◌+◌, ◌-◌, ◌<◌, ◌≤◌}
use mathlib.Core.Path.{◌≡◌, refl, sym, ap, ◌∙◌}
use mathlib.Core.List.{List, [], ◌∷◌, ◌++◌, map, append-nil}
use mathlib.Core.Bool.{Bool, true, false}
use native.Mathlib.Omega.{arith}
use native.Mathlib.Numerals.{add-one}
use borrow.Author.Tests.{lt-ltb, le-ltb}
use lib.Dec.{ltb}
use lib.ListN.{length, set, take, drop, length-drop, length-set, length-map, take-append-drop}
use lib.Seq.{length-take-le, take-suc-set, drop-set-lt, append_snoc, drop-length}
use Rattle.std.specs.Prelude.{if◌then◌else◌, Option, Some, None, is_some}
use Rattle.definition.specs.List.{gather, end_of, ranges_from, room_for}
use Rattle.definition.specs.declared.Mapped.{Mapped}
use Rattle.list.specs.Numbers.{number_of, ListedTo}
use Rattle.list.specs.Writing.{Written, written, begun, put, puts, answer_of}
use Rattle.list.specs.declared.writing.Progress.{Progress}

-- ---- one after the other
pub puts_append : (xs ys : List Mapped) (l : Written) → puts (xs ++ ys) l ≡ puts ys (puts xs l)
unfolding puts
puts_append [] ys l = refl
puts_append (x ∷ xs) ys l = puts_append xs ys (put x l)

put_full : (x : Mapped) (l : Written) → is_some l.next ≡ true → put x l ≡ l
unfolding put
put_full x l h = rw h

puts_full : (xs : List Mapped) (l : Written) → is_some l.next ≡ true → puts xs l ≡ l
unfolding puts
puts_full [] l h = refl
puts_full (x ∷ xs) l h = rw (put_full x l h) (puts_full xs l h)

gather_more : (f : ℕ → List Mapped) (i n : ℕ) → i < n → gather f i (n - i) ≡ f i ++ gather f (i + 1) (n - (i + 1))
unfolding gather
gather_more f i n h =
    let e : n - i ≡ suc (n - (i + 1)) = omega arith in
    rw (e, add-one)

-- ---- the loop over a table's entries: what is left to write from here on makes the whole
pub record Going (f : ℕ → List Mapped) (n : ℕ) (whole : Written) (i : ℕ) (l : Written) : Type 0 where
  pub upto : i ≤ n
  pub same : puts (gather f i (n - i)) l ≡ whole

pub begins : (f : ℕ → List Mapped) (n : ℕ) (l : Written) → Going f n (puts (gather f 0 n) l) 0 l
begins f n l = record { upto = omega arith; same = ap (λ (m : ℕ). puts (gather f 0 m) l) (omega arith) }

pub goes : (f : ℕ → List Mapped) (n : ℕ) (whole : Written) (i : ℕ) (l l' : Written) → Going f n whole i l → i < n → l' ≡ puts (f i) l
    → Going f n whole (i + 1) l'
goes f n whole i l l' g h e =
    record { upto = omega arith; same = rw (e, ← puts_append (f i) (gather f (i + 1) (n - (i + 1))) l, ← gather_more f i n h) g.same }

pub ends : (f : ℕ → List Mapped) (n : ℕ) (whole : Written) (i : ℕ) (l : Written) → Going f n whole i l → n ≤ i → l ≡ whole
unfolding gather puts
ends f n whole i l g h =
    let e : n - i ≡ 0 = omega arith in
    rw e at g.same

pub stops : (f : ℕ → List Mapped) (n : ℕ) (whole : Written) (i : ℕ) (l : Written) → Going f n whole i l → is_some l.next ≡ true → l ≡ whole
stops f n whole i l g h = sym (puts_full _ l h) ∙ g.same

-- ---- from an address on, of lists in a row
from_append : (from : ℕ) (xs ys : List Mapped) → ranges_from from (xs ++ ys) ≡ ranges_from from xs ++ ranges_from from ys
unfolding ranges_from
from_append from [] ys = refl
from_append from (x ∷ xs) ys = go (ltb from (end_of x)) (from_append from xs ys)
  where
    go : (b : Bool) → ranges_from from (xs ++ ys) ≡ ranges_from from xs ++ ranges_from from ys
        → (if b then x ∷ ranges_from from (xs ++ ys) else ranges_from from (xs ++ ys)) ≡ (if b then x ∷ ranges_from from xs else ranges_from from xs) ++ ranges_from from ys
    go true e = ap (λ (l : List Mapped). x ∷ l) e
    go false e = e

pub from_gather : (from : ℕ) (f : ℕ → List Mapped) (i n : ℕ) → ranges_from from (gather f i n) ≡ gather (λ (j : ℕ). ranges_from from (f j)) i n
unfolding gather ranges_from
from_gather from f i zero = refl
from_gather from f i (suc n) =
    from_append from (f i) (gather f (suc i) n) ∙ ap (λ (l : List Mapped). ranges_from from (f i) ++ l) (from_gather from f (suc i) n)

-- ---- up to the room there is
puts_fit : (xs : List Mapped) (out : List ℕ) (n : ℕ) → n + length xs ≤ length out
    → puts xs (record { out = out; count = n; next = None })
    ≡ record { out = take n out ++ (map number_of xs ++ drop (n + length xs) out); count = n + length xs; next = None }
unfolding puts put
puts_fit [] out n h =
    let e : n + 0 ≡ n = omega arith in
    rw (e, take-append-drop)
puts_fit (x ∷ xs) out n h =
    let k : n < length out = omega arith in
    let s = length-set out n (number_of x) in
    let e : n + 1 + length xs ≡ n + suc (length xs) = omega arith in
    rw (
      lt-ltb n (length out) k,
      puts_fit xs (set out n (number_of x)) (n + 1) (omega arith),
      e,
      add-one,
      take-suc-set out n (number_of x) k,
      drop-set-lt (n + suc (length xs)) out n (number_of x) (omega arith),
      append_snoc,
    )

-- room for all
puts_within : (xs : List Mapped) (old : List ℕ) → length xs ≤ length old
    → puts xs (begun old) ≡ record { out = map number_of xs ++ drop (length xs) old; count = length xs; next = None }
puts_within xs old h =
    let e : 0 + length xs ≡ length xs = omega arith in
    puts_fit xs old 0 (omega arith) ∙ rw e

puts_exact : (xs : List Mapped) (old : List ℕ) → length xs ≡ length old
    → puts xs (begun old) ≡ record { out = map number_of xs; count = length old; next = None }
puts_exact xs old h = puts_within xs old (omega arith) ∙ rw (h, drop-length, append-nil)

put_over : (x : Mapped) (xs : List Mapped) (out : List ℕ) (n : ℕ) → length out ≤ n
    → puts (x ∷ xs) (record { out = out; count = n; next = None }) ≡ record { out = out; count = n; next = Some x.first }
unfolding puts put
put_over x xs out n h = rw (le-ltb n (length out) h) (puts_full xs (record { out = out; count = n; next = Some x.first }) refl)

-- more than there is room for: the output is filled, and the next range's address is kept
puts_over : (xs : List Mapped) (old : List ℕ) (y : Mapped) (ys : List Mapped) → drop (length old) xs ≡ y ∷ ys → length old ≤ length xs
    → puts xs (begun old) ≡ record { out = map number_of (take (length old) xs); count = length old; next = Some y.first }
puts_over xs old y ys e h =
    let m = length old in
    let len : length (take m xs) ≡ m = length-take-le m xs h in
    let room : length (map number_of (take m xs)) ≡ m = length-map (take m xs) number_of ∙ len in
    ap (λ (l : List Mapped). puts l (begun old)) (sym (take-append-drop m xs))
    ∙ puts_append (take m xs) (drop m xs) (begun old)
    ∙ ap (puts (drop m xs)) (puts_exact (take m xs) old len)
    ∙ rw e (put_over _ _ _ _ (omega arith))

-- the law: what is written in the end is the definition's, as many as there was room for
pub listed : (xs : List Mapped) (old new : List ℕ) (r : Progress) → written new r ≡ puts xs (begun old) → ListedTo (room_for (length old) xs) old new (answer_of r)
listed xs old new r e = go (drop (length old) xs) refl
  where
    go : (ys : List Mapped) → drop (length old) xs ≡ ys → ListedTo (room_for (length old) xs) old new (answer_of r)
    go [] d =
        let all : take (length old) xs ≡ xs = sym (append-nil (take (length old) xs)) ∙ ap (λ (l : List Mapped). take (length old) xs ++ l) (sym d) ∙ take-append-drop (length old) xs in
        let n = length-drop (length old) xs in
        let none : length (drop (length old) xs) ≡ 0 = ap length d in
        let w = e ∙ puts_within xs old (omega arith) in
        let next : r.next ≡ None = ap (λ (l : Written). l.next) w in
        let count : r.count ≡ length xs = ap (λ (l : Written). l.count) w in
        record { answer = rw (next, d, all, count); wrote = ap (λ (l : Written). l.out) w ∙ rw all }
    go (y ∷ ys) d =
        let n = length-drop (length old) xs in
        let some : length (drop (length old) xs) ≡ suc (length ys) = ap length d in
        let most : length old ≤ length xs = omega arith in
        let w = e ∙ puts_over xs old y ys d most in
        let count : r.count ≡ length old = ap (λ (l : Written). l.count) w in
        let next : r.next ≡ Some y.first = ap (λ (l : Written). l.next) w in
        let len = length-take-le (length old) xs most in
        record { answer = rw (next, d, len, count); wrote = ap (λ (l : Written). l.out) w ∙ rw (len, drop-length, append-nil) }
