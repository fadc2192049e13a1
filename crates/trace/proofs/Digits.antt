-- Digits: eight hex digits are the four of the high half and the four of the low, and a decimal is its front and its last digit. Assumes nothing.
use Prim.Native.Nat.{ℕ, zero, suc, ◌+◌, ◌/◌, ◌%◌, ◌^◌, ◌≤◌, ◌<◌}
use mathlib.Core.Path.{◌≡◌, refl}
use mathlib.Core.List.{List, [], ◌∷◌, ◌++◌}
use native.Mathlib.Nat.{pow-suc}
use native.Mathlib.Decide.{dec_le}
use native.Mathlib.Omega.{arith}
use lib.ListN.{length, length-append}
use borrow.Author.Tests.{lt-ltb, le-ltb}
use Rattle.trace.specs.Lines.{Wrote}
use Rattle.trace.proofs.Writes.{then, loosely}
use Rattle.definition.specs.Trace.{hex_digit, hex, digit, decimal_in, decimal}

pub hex_four : {a b c d : ℕ} (n : ℕ) → a ≡ hex_digit (n / 2 ^ 12 % 16) → b ≡ hex_digit (n / 2 ^ 8 % 16)
    → c ≡ hex_digit (n / 2 ^ 4 % 16) → d ≡ hex_digit (n % 16) → (a ∷ b ∷ c ∷ d ∷ []) ≡ hex 4 n
unfolding hex
hex_four n a b c d =
    let low : n / 16 ^ 0 ≡ n = omega arith in
    rw (a, b, c, d, low)

pub hex_eight : (n : ℕ) → hex 4 (n / 2 ^ 16) ++ hex 4 n ≡ hex 8 n
unfolding hex
hex_eight n =
    let three : n / 2 ^ 16 / 16 ^ 3 ≡ n / 16 ^ 7 = omega arith in
    let two : n / 2 ^ 16 / 16 ^ 2 ≡ n / 16 ^ 6 = omega arith in
    let one : n / 2 ^ 16 / 16 ^ 1 ≡ n / 16 ^ 5 = omega arith in
    let none : n / 2 ^ 16 / 16 ^ 0 ≡ n / 16 ^ 4 = omega arith in
    rw (three, two, one, none)

-- enough digits are enough
enough : (k m n : ℕ) → n ≤ k → n ≤ m → decimal_in k n ≡ decimal_in m n
unfolding decimal_in
enough zero zero n h i = refl
enough zero (suc m) n h i = rw (lt-ltb n 10 (omega arith))
enough (suc k) zero n h i = rw (lt-ltb n 10 (omega arith))
enough (suc k) (suc m) n h i = rw (enough k m (n / 10) (omega arith) (omega arith))

pub decimal_one : (n : ℕ) → n < 10 → (digit n ∷ []) ≡ decimal n
unfolding decimal_in
decimal_one zero h = refl
decimal_one (suc n) h = rw (lt-ltb (suc n) 10 h)

pub decimal_more : (n : ℕ) → 10 ≤ n → decimal (n / 10) ++ (digit n ∷ []) ≡ decimal n
unfolding decimal_in
decimal_more zero h = absurd (omega arith)
decimal_more (suc n) h = rw (le-ltb (suc n) 10 h, enough n (suc n / 10) (suc n / 10) (omega arith) (omega arith))

pub longer : (n : ℕ) → 10 ≤ n → length (decimal n) ≡ length (decimal (n / 10)) + 1
longer n h = rw (← decimal_more n h, length-append)

-- a number below 10 ^ k has at most k digits
pub decimal_short : (k n : ℕ) → n < 10 ^ suc k → length (decimal n) ≤ suc k
decimal_short zero n h = rw (← decimal_one n h) (omega arith)
decimal_short (suc k) n h = go (dec_le 10 n) (decimal_short k (n / 10))
  where
    go : Dec (10 ≤ n) → (n / 10 < 10 ^ suc k → length (decimal (n / 10)) ≤ suc k) → length (decimal n) ≤ suc (suc k)
    go (yes more) front =
        let below : n / 10 < 10 ^ suc k = omega (arith, rw pow-suc at h) in
        omega (arith, longer n more, front below)
    go (no one) front =
        let small : n < 10 = omega (arith, one) in
        rw (← decimal_one n small) (omega arith)

-- a decimal is written by its last digit, after the others where there are more
module _ {at next d : ℕ} {old new : List ℕ} (n : ℕ) (is : d ≡ digit n) where
  pub one_digit : n < 10 → Wrote 1 old at (d ∷ []) new next → Wrote 10 old at (decimal n) new next
  one_digit h w = loosely 10 (omega arith) (rw (is, decimal_one n h) at w)

  pub more_digits : {middle : ℕ} {half : List ℕ} → 10 ≤ n → n < 2 ^ 32 → Wrote 10 old at (decimal (n / 10)) half middle
      → Wrote 1 half middle (d ∷ []) new next → Wrote 10 old at (decimal n) new next
  more_digits h fits v w =
      let both : Wrote 11 old at (decimal n) new next = rw (is, decimal_more n h) at (then v w) in
      record {
        stores = both.stores;
        ends = both.ends;
        short = decimal_short 9 n (omega arith);
      }
