-- The numbers that are read are what the digits mean: what the kit's `decimal` writes is read back.
use Rattle.std.proofs.Common.{ℕ, zero, suc, ◌≡◌, ◌+◌, ◌*◌, ◌/◌, ◌%◌, ◌^◌, ◌-◌, ◌<◌, false, Some, Ok, List, ◌∷◌, ◌++◌, sym, ◌∙◌, append_assoc, arith}
use native.Mathlib.Nat.{pow-suc, mul_assoc}
use borrow.Author.Tests.{lt-ltb, le-leb, lt-leb}
use Rattle.io.specs.Digits.{last_digits, hex_digit_ascii}
use Rattle.vectors.specs.Rows.{digit_of, number_from, number_at}

digit_glyph : (d : ℕ) → d < 10 → digit_of (hex_digit_ascii d) ≡ Some d
digit_glyph d h =
    let e : 48 + d - 48 ≡ d = omega arith in
    rw (lt-ltb d 10 h, le-leb 48 (48 + d) (omega arith), le-leb (48 + d) 57 (omega arith), e)

-- one digit more
one_digit : (start v i d : ℕ) (rest : List ℕ) → d < 10 → v * 10 + d < 2 ^ 32 → number_from start v i (hex_digit_ascii d ∷ rest) ≡ number_from start (v * 10 + d) (i + 1) rest
unfolding number_from
one_digit start v i d rest h k = rw (digit_glyph d h, lt-leb (2 ^ 32) (v * 10 + d) k)

-- the last k digits of n come after those that make v
all_digits : (start k v i n : ℕ) (rest : List ℕ) → n < 10 ^ k → v * 10 ^ k + n < 2 ^ 32 → number_from start v i (last_digits 10 k n ++ rest) ≡ number_from start (v * 10 ^ k + n) (i + k) rest
all_digits start zero v i n rest h b =
    let e : v * 1 + n ≡ v = omega arith in
    let f : i + 0 ≡ i = omega arith in
    rw (e, f)
all_digits start (suc k) v i n rest h b =
    let q : v * 10 ^ suc k ≡ v * 10 ^ k * 10 = rw pow-suc (sym (mul_assoc v (10 ^ k) 10)) in
    let hᵏ : n / 10 < 10 ^ k = omega (arith, rw pow-suc at h) in
    let bᵏ : v * 10 ^ k + n / 10 < 2 ^ 32 = omega (arith, q) in
    let e : (v * 10 ^ k + n / 10) * 10 + n % 10 ≡ v * 10 ^ suc k + n = omega (arith, q) in
    let f : i + k + 1 ≡ i + suc k = omega arith in
    rw append_assoc
    (all_digits start k v i (n / 10) (hex_digit_ascii (n % 10) ∷ rest) hᵏ bᵏ
    ∙ one_digit start (v * 10 ^ k + n / 10) (i + k) (n % 10) rest (omega arith) (omega (arith, e)) ∙ rw (e, f))

-- a number that is written with k digits, at the start of a text, and closed by a space
pub read_back : (k n : ℕ) (rest : List ℕ) → 0 < k → n < 10 ^ k → n < 2 ^ 32 → number_at (last_digits 10 k n ++ (32 ∷ rest)) 0 ≡ Ok (Some (record { value = n; last = false; next = record { at = k + 1 } }))
unfolding number_from
read_back k n rest p h b =
    let e : 0 * 10 ^ k + n ≡ n = omega arith in
    let f : 0 + k ≡ k = omega arith in
    all_digits 0 k 0 0 n (32 ∷ rest) h (rw e b) ∙ rw (e, f, lt-ltb 0 k p)
