-- Two addresses of one page take the same 68040 walk, so they ask for the same longs and end alike; and the cached base gives each its own
-- physical address. Assumes nothing.
use Rattle.std.specs.Prelude.{Option, Some, None}
use Prim.Native.Nat.{ℕ, ◌/◌, ◌%◌, ◌^◌, ◌≤◌}
use mathlib.Core.Path.{◌≡◌, refl}
use mathlib.Core.List.{List, []}
use mathlib.Core.Bool.{Bool, false}
use native.Mathlib.Omega.{arith}
use native.Mathlib.Nat.{mod-lt}
use lib.Pow.{pow_pos}
use lib.Bits.{or_shifted}
use Rattle.definition.specs.Words.{bit_of}
use Rattle.definition.specs.Memory.{Memory, fetch_of}
use Rattle.definition.specs.Walk040.{Outcome040, on_long, page_bits, root_at, pointer_at, page_at, on_pointer, on_root, walk040, frame_of, physical040}
use Rattle.definition.specs.Translate.{joined}
use Rattle.definition.specs.declared.Registers.{Registers}
use Rattle.definition.proofs.Choice.{if_both, if_alike}
use Rattle.definition.proofs.Page030.{above}

-- a long that is asked for, before two continuations that do the same
pub long_next : (at : ℕ) (before : List ℕ) (next next' : ℕ → List ℕ → Outcome040) → ((x : ℕ) (asked : List ℕ) → next x asked ≡ next' x asked)
    → (r : Option ℕ) → on_long at before next r ≡ on_long at before next' r
long_next at before next next' h (Some x) = h x _
long_next at before next next' h None = refl

few_bits : (tc : ℕ) → page_bits tc ≤ 13
few_bits tc = if_both (λ (n : ℕ). n ≤ 13) (bit_of tc 14) _ _ (omega arith) (omega arith)

fewer_bits : (tc : ℕ) → bit_of tc 14 ≡ false → page_bits tc ≤ 12
fewer_bits tc e = rw e (omega arith)

module _ (m : Memory) (g : Registers) (a a' : ℕ) (page : a / 2 ^ page_bits g.tc ≡ a' / 2 ^ page_bits g.tc) where
  at_bit : (j : ℕ) → page_bits g.tc ≤ j → a / 2 ^ j ≡ a' / 2 ^ j
  at_bit j h = above a a' (page_bits g.tc) j h page

  page_same : (pointer : ℕ) → page_at g.tc pointer a ≡ page_at g.tc pointer a'
  page_same pointer =
      if_alike (λ (n : ℕ). n) (bit_of g.tc 14) _ _ _ _ (λ t. rw (at_bit 13 (few_bits g.tc))) (λ f. rw (at_bit 12 (fewer_bits g.tc f)))

  pointer_page : (root pointer : ℕ) (asked : List ℕ) → on_pointer m g.tc a root pointer asked ≡ on_pointer m g.tc a' root pointer asked
  pointer_page root pointer asked = rw (page_same pointer)

  root_page : (root : ℕ) (asked : List ℕ) → on_root m g.tc a root asked ≡ on_root m g.tc a' root asked
  root_page root asked =
      rw (
        at_bit 18 (omega (arith, few_bits g.tc)),
        long_next (pointer_at root a') asked _ _ (λ pointer asked. pointer_page root pointer asked) (fetch_of m (pointer_at root a')),
      )

  -- the law: one page under one privilege, one outcome, and so the same longs asked for
  pub page_040 : (supervisor : Bool) → walk040 m g a supervisor ≡ walk040 m g a' supervisor
  unfolding walk040
  page_040 supervisor =
      rw (
        at_bit 25 (omega (arith, few_bits g.tc)),
        long_next (root_at g supervisor a') [] _ _ (λ root asked. root_page root asked) (fetch_of m (root_at g supervisor a')),
      )

-- the law: the cached base gives each address of the page its own physical address
pub base_040 : (tc field address : ℕ) → joined tc (frame_of tc field) address ≡ physical040 tc field address
base_040 tc field address =
    rw (or_shifted (field / 2 ^ page_bits tc) (page_bits tc) (address % 2 ^ page_bits tc) (mod-lt address (pow_pos (page_bits tc))))
