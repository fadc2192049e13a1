-- What each record's parts give together: the definition's step. Assumes nothing.
use Prim.Native.Nat.{ℕ, ◌≤◌, ◌<◌}
use mathlib.Core.Path.{◌≡◌, refl, ap, sym, ◌∙◌}
use mathlib.Core.List.{List, [], ◌∷◌, ◌++◌}
use mathlib.Core.Bool.{Bool, true, false, ◌||◌}
use borrow.Author.Tests.{lt-ltb, le-ltb, le-leb, lt-leb}
use lib.ListN.{length}
use Rattle.definition.specs.Words.{any_of}
use Rattle.definition.specs.Refusal.{no_family, bad_store, crossed, refusal_of}
use Rattle.definition.specs.Calls.{Call, calling}
use Rattle.definition.specs.Trace.{State, memory_of, Loads, Calls, Stores, Adds, step_of}
use Rattle.definition.specs.declared.Registers.{Registers}
use Rattle.definition.specs.declared.Range.{Range}
use Rattle.trace.specs.Records.{setting_in}
use Rattle.trace.specs.declared.Line.{Line}
use Rattle.trace.specs.declared.Setting.{Setting}
use Rattle.replay.specs.declared.Kept.{Kept}
use Rattle.replay.specs.Playing.{ranges_of, state_of, CalledIn, StoredIn, PlayedIn}

-- ---- registers
module _ (k : Kept) (g : Registers) {x : Bool} (is : x ≡ no_family g.family) {longs c030 c040 : List ℕ} where
  pub set_none : x ≡ true → PlayedIn (step_of (state_of k longs c030 c040) (Loads g)) (Line.R 1) k longs c030 c040
  unfolding step_of refusal_of
  set_none e = rw (sym is ∙ e) (record { prints = refl; leaves = refl })

  pub set_some : x ≡ false
      → PlayedIn (step_of (state_of k longs c030 c040) (Loads g)) Line.K (record { registers = g; ranges = k.ranges }) longs c030 c040
  unfolding step_of refusal_of
  set_some e = rw (sym is ∙ e) (record { prints = refl; leaves = refl })

-- a store is refused or done, as the definition's record is
pub stored : (k : Kept) (address value : ℕ) (longs : List ℕ) {l : Line} {longs' c030 c040 : List ℕ} → StoredIn longs address value l longs'
    → PlayedIn (step_of (state_of k longs c030 c040) (Stores address value)) l k longs' c030 c040
unfolding step_of refusal_of
stored k address value longs {l} {longs'} {c030} {c040} s = go (bad_store longs address) refl
  where
    go : (b : Bool) → bad_store longs address ≡ b → PlayedIn (step_of (state_of k longs c030 c040) (Stores address value)) l k longs' c030 c040
    go true e = rw e (record { prints = rw e at s.prints; leaves = rw (rw e at s.leaves) refl })
    go false e = rw e (record { prints = rw e at s.prints; leaves = rw (rw e at s.leaves) refl })

-- ---- a range
any_more : (l : List Range) (r : Range) → crossed r ≡ false → any_of crossed (l ++ (r ∷ [])) ≡ any_of crossed l
unfolding any_of
any_more [] r e = rw e
any_more (x ∷ l) r e = ap (λ (b : Bool). crossed x || b) (any_more l r e)

module _ (k : Kept) (range : Range) {longs c030 c040 : List ℕ} where
  pub add_crossed : range.last < range.first
      → PlayedIn (step_of (state_of k longs c030 c040) (Adds range)) (Line.R 3) k longs c030 c040
  unfolding step_of refusal_of
  add_crossed h = rw (lt-ltb range.last range.first h) (record { prints = refl; leaves = refl })

  module _ (h : range.first ≤ range.last) where
    pub add_full : 16 ≤ length (ranges_of k) → PlayedIn (step_of (state_of k longs c030 c040) (Adds range)) (Line.R 8) k longs c030 c040
    unfolding step_of refusal_of
    add_full f = rw (le-ltb range.last range.first h, le-leb 16 (length (ranges_of k)) f) (record { prints = refl; leaves = refl })

    pub add_in : (k' : Kept) → k'.registers ≡ k.registers → ranges_of k' ≡ ranges_of k ++ (range ∷ []) → length (ranges_of k) < 16
        → PlayedIn (step_of (state_of k longs c030 c040) (Adds range)) Line.K k' longs c030 c040
    unfolding step_of refusal_of
    add_in k' g e f =
        rw (le-ltb range.last range.first h, lt-leb 16 (length (ranges_of k)) f)
        (record { prints = refl; leaves = rw (g, e) refl })

pub added_crossed : (l : List Range) (range : Range) {l' : List Range} → range.first ≤ range.last → l' ≡ l ++ (range ∷ [])
    → any_of crossed l' ≡ any_of crossed l
added_crossed l range h e = rw e (any_more l range (le-ltb range.last range.first h))

-- ---- a call
pub called : (k : Kept) (call : Call) (longs : List ℕ) (c030 c040 : List ℕ) {l : Line} {c030' c040' : List ℕ}
    → CalledIn (calling k.registers (memory_of (state_of k longs c030 c040)) (state_of k longs c030 c040).caches call) l c030' c040'
    → PlayedIn (step_of (state_of k longs c030 c040) (Calls call)) l k longs c030' c040'
unfolding step_of
called k call longs c030 c040 c = record { prints = c.prints; leaves = rw c.leaves refl }

-- a setting that was told apart
pub by_setting : (s : State) {x y : Setting} {l : Line} {k : Kept} {longs c030 c040 : List ℕ} → x ≡ y
    → PlayedIn (step_of s (setting_in y)) l k longs c030 c040 → PlayedIn (step_of s (setting_in x)) l k longs c030 c040
by_setting s e p = rw e p
