-- Laws of the text: what one more byte says of a number, and one more number of a row.
use Rattle.std.proofs.Common.{ℕ, suc, ◌≡◌, ◌+◌, ◌*◌, ◌-◌, ◌^◌, ◌≤◌, ◌<◌, Bool, true, false, cond, ◌&&◌, ◌||◌, ltb, eqb, None, Some, Ok, Err, List, [], ◌∷◌, ◌++◌, length, get_or, set, take, drop, refl, sym, add-one, append_assoc, drop-cons, drop_of_length-le, length-set, arith}
use Rattle.std.proofs.Math.Seq.{take-suc-set}
use borrow.Author.Tests.{le-leb, lt-leb}
use Rattle.vectors.specs.Rows.{Found, malformed, digit_of, closed_by, number_from, number_at, Ahead, after, on_number, row_at}
use Rattle.vectors.specs.declared.Number.{Number}

-- the digits from start up to i are read, and make value
pub record Reading (l : List ℕ) (start value i : ℕ) : Type 0 where
  pub same : number_at l start ≡ number_from start value i (drop i l)
  pub small : value < 2 ^ 32

module _ {l : List ℕ} {start value i : ℕ} (r : Reading l start value i) where
  -- the text ends
  pub over : length l ≤ i → Ok None ≡ number_at l start
  unfolding number_from
  over h = rw (r.same, drop_of_length-le l {i = i} h)

  module _ (h : i < length l) where
    -- the byte at i closes the number
    pub closes : None ≡ digit_of (get_or l i 0) → closed_by (ltb start i) value (get_or l i 0) (i + 1) ≡ number_at l start
    unfolding number_from
    closes e = rw (r.same, drop-cons l i 0, ← e)

    module _ {d : ℕ} (e : Some d ≡ digit_of (get_or l i 0)) where
      -- one more digit makes it too large
      pub too_large : 2 ^ 32 ≤ value * 10 + d → malformed ≡ number_at l start
      unfolding number_from
      too_large u = rw (r.same, drop-cons l i 0, ← e, le-leb (2 ^ 32) (value * 10 + d) u)

      -- one more digit
      pub more : value * 10 + d < 2 ^ 32 → Reading l start (value * 10 + d) (i + 1)
      unfolding number_from
      more u = record { same = rw (r.same, drop-cons l i 0, ← e, lt-leb (2 ^ 32) (value * 10 + d) u, add-one); small = u }

pub closed_ahead : (t : Bool) (value b i at size : ℕ) → at ≤ i → i < size → Ahead (closed_by t value b (i + 1)) at size
closed_ahead t value b i at size h k = choose (t && (eqb b 32 || eqb b 10))
  where
    choose : (u : Bool) → Ahead (cond u (Ok (Some (record { value = value; last = eqb b 10; next = record { at = i + 1 } }))) malformed) at size
    choose true = (omega arith, omega arith)
    choose false = tt

-- ---- a row
after_none : (f : Found (List ℕ × ℕ)) → after [] f ≡ f
after_none (Ok (Some w)) = refl
after_none (Ok None) = refl
after_none (Err e) = refl

after_after : (vs ws : List ℕ) (f : Found (List ℕ × ℕ)) → after vs (after ws f) ≡ after (vs ++ ws) f
after_after vs ws (Ok (Some w)) = rw append_assoc
after_after vs ws (Ok None) = refl
after_after vs ws (Err e) = refl

-- count numbers are read and put, and the next one starts at `at`
pub record Filling (text first : List ℕ) (at₀ : ℕ) (numbers : List ℕ) (at count : ℕ) : Type 0 where
  pub same : row_at text (length first) at₀ ≡ after (take count numbers) (row_at text (length first - count) at)
  pub kept : length numbers ≡ length first
  pub ahead : at₀ ≤ at

pub none_put : (text first : List ℕ) (at : ℕ) → Filling text first at first at 0
none_put text first at =
    let e : length first - 0 ≡ length first = omega arith in
    record { same = rw e (sym (after_none (row_at text (length first) at))); kept = refl; ahead = omega arith }

module _ {text first : List ℕ} {at₀ : ℕ} {numbers : List ℕ} {at count : ℕ} (f : Filling text first at₀ numbers at count) where
  -- there is no room for another number
  pub no_room : length first ≤ count → malformed ≡ row_at text (length first) at₀
  unfolding row_at
  no_room h =
      let e : length first - count ≡ 0 = omega arith in
      rw (f.same, e)

  module _ (h : count < length first) where
    one_more : row_at text (length first - count) at ≡ on_number (λ (next : ℕ). row_at text (length first - (count + 1)) next) (number_at text at)
    unfolding row_at
    one_more =
        let e : length first - count ≡ suc (length first - (count + 1)) = omega arith in
        rw e

    -- the text ends
    pub cut : Ok None ≡ number_at text at → Ok None ≡ row_at text (length first) at₀
    cut e = rw (f.same, one_more, ← e)

    -- it is no number
    pub bad : malformed ≡ number_at text at → malformed ≡ row_at text (length first) at₀
    bad e = rw (f.same, one_more, ← e)

    module _ {n : Number} (e : Ok (Some n) ≡ number_at text at) where
      -- it is the last number
      pub last_put : n.last ≡ true → Ok (Some (take (count + 1) (set numbers count n.value), n.next.at)) ≡ row_at text (length first) at₀
      last_put t = rw (f.same, one_more, ← e, t, add-one, take-suc-set numbers count n.value (omega (arith, f.kept)))

      -- it is not the last
      pub more_put : at < n.next.at → n.last ≡ false → Filling text first at₀ (set numbers count n.value) n.next.at (count + 1)
      more_put a t =
          record {
            same =
                rw (
                  f.same,
                  one_more,
                  ← e,
                  t,
                  after_after (take count numbers) (n.value ∷ []) (row_at text (length first - (count + 1)) n.next.at),
                  ← take-suc-set numbers count n.value (omega (arith, f.kept)),
                  ← add-one,
                );
            kept = rw length-set f.kept;
            ahead = omega arith;
          }
