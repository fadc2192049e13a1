-- Laws of shifts. Assumes nothing.
use Prim.Native.Nat.{ℕ, ◌+◌, ◌-◌, ◌*◌, ◌/◌, ◌%◌, ◌^◌, ◌≤◌, ◌<◌}
use mathlib.Core.Path.{◌≡◌, refl, sym}
use mathlib.Core.Bool.{false}
use native.Mathlib.Omega.{arith}
use native.Mathlib.Nat.{mod-eq_of_lt, div-eq_of_lt, lt_of_lt_of_le}
use lib.Pow.{field, shl-shr, pow_mono}
use Rattle.definition.specs.Words.{bit_of}

-- left and right again by the same number keeps the low bits
pub low_shift : (a c : ℕ) → c < 32 → a * 2 ^ c % 2 ^ 32 / 2 ^ c ≡ a % 2 ^ (32 - c)
low_shift a c h =
    let e : 32 - c + c ≡ 32 = omega arith in
    rw (e, shl-shr a c) at (field (a * 2 ^ c) (32 - c) c)

-- a shift of 32 and more keeps the whole address
pub whole_address : (a s : ℕ) → a < 2 ^ 32 → 32 ≤ s → a ≡ a % 2 ^ s
whole_address a s h l = sym (mod-eq_of_lt (lt_of_lt_of_le h (pow_mono {i = 32} {j = s} l)))

-- and nothing has a bit there
pub no_bit : (x k : ℕ) → 32 ≤ k → x < 2 ^ 32 → false ≡ bit_of x k
no_bit x k l h = rw (div-eq_of_lt (lt_of_lt_of_le h (pow_mono {i = 32} {j = k} l))) refl
