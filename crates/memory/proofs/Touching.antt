-- Whether one of a long's four bytes lies in a range. Assumes nothing.
use Prim.Native.Nat.{ℕ, ◌+◌, ◌^◌, ◌≤◌, ◌<◌}
use mathlib.Core.Path.{◌≡◌, refl, sym}
use mathlib.Core.Bool.{Bool, true, false, ◌&&◌, ◌||◌, or-true}
use native.Mathlib.Omega.{arith}
use native.Mathlib.Decide.{dec_le}
use borrow.Author.Tests.{le-leb, leb-true, leb-false, lt-ltb, le-ltb}
use lib.Dec.{leb}
use Rattle.definition.specs.Memory.{within, touches_of}
use Rattle.memory.specs.Ranges.{last_byte}

-- a byte is not within, where its being so is absurd
not_within : (first last b : ℕ) → (first ≤ b → b ≤ last → ⊥) → within first last b ≡ false
not_within first last b h = go (leb first b) (leb b last) refl refl
  where
    go : (s t : Bool) → leb first b ≡ s → leb b last ≡ t → (s && t) ≡ false
    go true true e f = absurd (h (leb-true first b e) (leb-true b last f))
    go true false e f = refl
    go false true e f = refl
    go false false e f = refl

is_within : (first last b : ℕ) → first ≤ b → b ≤ last → within first last b ≡ true
is_within first last b h l = rw (le-leb first b h, le-leb b last l)

-- none of the four bytes is, and one of them is
pub untouched : (first last at : ℕ) → ((b : ℕ) → at ≤ b → b ≤ at + 3 → first ≤ b → b ≤ last → ⊥) → touches_of first last at ≡ false
unfolding touches_of
untouched first last at h =
    rw (
      not_within first last at (h at (omega arith) (omega arith)),
      not_within first last (at + 1) (h (at + 1) (omega arith) (omega arith)),
      not_within first last (at + 2) (h (at + 2) (omega arith) (omega arith)),
      not_within first last (at + 3) (h (at + 3) (omega arith) (omega arith)),
    )

pub touched : (first last at : ℕ) → first ≤ last → first ≤ at + 3 → at ≤ last → touches_of first last at ≡ true
unfolding touches_of
touched first last at h l t = go (dec_le first at) (dec_le first (at + 1)) (dec_le first (at + 2))
  where
    go : Dec (first ≤ at) → Dec (first ≤ at + 1) → Dec (first ≤ at + 2)
        → (within first last at || within first last (at + 1) || within first last (at + 2) || within first last (at + 3)) ≡ true
    go (yes a) b c = rw (is_within first last at a t)
    go (no a) (yes b) c = rw (is_within first last (at + 1) b (omega arith), or-true)
    go (no a) (no b) (yes c) = rw (is_within first last (at + 2) c (omega arith), or-true)
    go (no a) (no b) (no c) = rw (is_within first last (at + 3) l (omega arith), or-true)

-- the code's test, which looks at the first and the last byte alone, and at no address past FFFFFFFF
pub by_ends : (first last at : ℕ) → first < 2 ^ 32 → at < 2 ^ 32 → (leb first last && leb first (last_byte at) && leb at last) ≡ touches_of first last at
by_ends first last at hf ha = go (leb first last) (leb first (last_byte at)) (leb at last) refl refl refl
  where
    -- first is by the last byte just where it is by the last of the four
    by_last : first ≤ last_byte at → first ≤ at + 3
    by_last h = at_top (dec_le 4294967293 at) h
      where
        at_top : Dec (4294967293 ≤ at) → first ≤ last_byte at → first ≤ at + 3
        at_top (yes l) h = omega arith
        at_top (no l) h = rw (lt-ltb at 4294967293 (omega arith)) at h

    past_last : last_byte at < first → at + 3 < first
    past_last h = at_top (dec_le 4294967293 at) h
      where
        at_top : Dec (4294967293 ≤ at) → last_byte at < first → at + 3 < first
        at_top (yes l) h = let k : 4294967295 < first = rw (le-ltb at 4294967293 l) at h in absurd (omega arith)
        at_top (no l) h = rw (lt-ltb at 4294967293 (omega arith)) at h

    go : (a b c : Bool) → leb first last ≡ a → leb first (last_byte at) ≡ b → leb at last ≡ c → (a && b && c) ≡ touches_of first last at
    go true true true ea eb ec = sym (touched first last at (leb-true first last ea) (by_last (leb-true first (last_byte at) eb)) (leb-true at last ec))
    go true true false ea eb ec = let n = leb-false at last ec in sym (untouched first last at (λ b h l f t. omega arith))
    go true false c ea eb ec = let n = past_last (leb-false first (last_byte at) eb) in sym (untouched first last at (λ b h l f t. omega arith))
    go false b c ea eb ec = let n = leb-false first last ea in sym (untouched first last at (λ b h l f t. omega arith))
