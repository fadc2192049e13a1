-- How large a code, a page shift and a page's bits can be. Assumes nothing.
use Rattle.std.specs.Prelude.{if◌then◌else◌, Option, Some, None}
use Prim.Native.Nat.{ℕ, ◌+◌, ◌-◌, ◌%◌, ◌<◌}
use mathlib.Core.Path.{◌≡◌, refl, sym, ◌∙◌}
use mathlib.Core.Bool.{Bool, true, false, ◌&&◌}
use native.Mathlib.Omega.{arith}
use native.Mathlib.Nat.{mod-eq_of_lt}
use borrow.Author.Tests.{leb-true}
use lib.Dec.{leb}
use Rattle.definition.specs.Words.{bit_of}
use Rattle.definition.specs.Registers.{code_of}
use Rattle.definition.specs.Walk030.{used, widths_of, is_of, sum_of, shift_from, shift_of}
use Rattle.definition.specs.Walk040.{page_bits}

-- the code of an access is below 8
pub code_small : (supervisor instruction : Bool) → code_of supervisor instruction < 8
code_small false false = omega arith
code_small false true = omega arith
code_small true false = omega arith
code_small true true = omega arith

-- the page shift is below 32
from_small : (sum s : ℕ) → shift_from sum ≡ Some s → s < 32
from_small sum s e = go (leb 1 sum) (leb sum 31) refl e
  where
    bits : (n : ℕ) → Some n ≡ Some s → n ≡ s
    bits n e = cc

    go : (b d : Bool) → leb 1 sum ≡ b → (if b && d then Some (32 - sum) else None) ≡ Some s → s < 32
    go true true h e = omega (arith, bits (32 - sum) e, leb-true 1 sum h)
    go true false h e = let z : ◌≡◌ {A = ℕ} 0 1 = cc in omega arith
    go false true h e = let z : ◌≡◌ {A = ℕ} 0 1 = cc in omega arith
    go false false h e = let z : ◌≡◌ {A = ℕ} 0 1 = cc in omega arith

pub shift_small : (tc : ℕ) {r : Option ℕ} {s : ℕ} → r ≡ shift_of tc → r ≡ Some s → s < 32
shift_small tc {r} {s} e f = from_small (is_of tc + sum_of (used (widths_of tc))) s (sym e ∙ f)

-- a code below 8 is the code that a look or an insert takes
pub in_three_bits : {code : ℕ} → code < 8 → code % 8 ≡ code
in_three_bits h = mod-eq_of_lt h

-- a page's bits are below 32
pub bits_small : (tc : ℕ) {bits : ℕ} → bits ≡ page_bits tc → bits < 32
bits_small tc e = rw e (go (bit_of tc 14))
  where
    go : (b : Bool) → (if b then 13 else 12) < 32
    go true = omega arith
    go false = omega arith
