-- Laws of numbers that have a flag in their low bit.
use Prim.Native.Nat.{ℕ, ◌/◌, ◌%◌, ◌^◌, ◌<◌, ◌≤◌, zero-le, suc-le-suc}
use mathlib.Core.Path.{◌≡◌, refl, sym}
use mathlib.Core.Bool.{Bool, true, false, not}
use native.Mathlib.Omega.{arith}
use native.Mathlib.Nat.{le_refl, le_trans, div-eq_of_lt, pow-le-pow_right}
use borrow.Author.Tests.{eq-eqb, ne_eqb, eqb-true, eqb-false}
use Rattle.cache.specs.Packed.{bit, odd}

pub bit_small : (b : Bool) → bit b ≤ 1
bit_small true = le_refl 1
bit_small false = zero-le

pub odd_is : (b : Bool) (n : ℕ) → n % 2 ≡ bit b → odd n ≡ b
odd_is true n e = eq-eqb (n % 2) 1 e
odd_is false n e = ne_eqb (n % 2) 1 (λ f. omega arith)

pub low_bit : (n : ℕ) → bit (odd n) ≡ n % 2
low_bit n = go (odd n) refl
  where
    go : (b : Bool) → odd n ≡ b → bit b ≡ n % 2
    go true e = sym (eqb-true (n % 2) 1 e)
    go false e =
        let h : (n % 2 ≡ 1) → ⊥ = eqb-false (n % 2) 1 e in
        omega arith

pub odd_bit : (b : Bool) (n : ℕ) → odd n ≡ b → n % 2 ≡ bit b
odd_bit b n e = sym (rw e at (low_bit n))

pub odd_valid : (n : ℕ) → n % 2 ≡ 1 → not (odd n) ≡ false
odd_valid n h = rw (odd_is true n h)

pub even_invalid : (n : ℕ) → (n % 2 ≡ 1 → ⊥) → not (odd n) ≡ true
even_invalid n h = rw (odd_is false n (omega arith))

-- a number of 32 bits that is shifted right by 32 or more
pub shifted_out : (x s : ℕ) → 32 ≤ s → x < 2 ^ 32 → 0 ≡ x / 2 ^ s
shifted_out x s h l = sym (div-eq_of_lt (le_trans l (pow-le-pow_right (suc-le-suc zero-le) h)))
