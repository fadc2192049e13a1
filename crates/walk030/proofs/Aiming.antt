-- Each way out of `aim` is a case of `aim_of`: laws over plain values. Assumes nothing.
use Prim.Native.Nat.{ℕ, ◌+◌}
use mathlib.Core.Path.{◌≡◌}
use mathlib.Core.List.{List}
use mathlib.Core.Bool.{true, false}
use lib.ListN.{get_or}
use Rattle.definition.specs.Walk030.{entry_of, top_index}
use Rattle.walk030.specs.Machine.{aimed_of, next_k, aim_of}
use Rattle.walk030.specs.declared.machine.Walking030.{Walking030}

module _ (ws : List ℕ) (address code : ℕ) (s : Walking030) where
  pub target : s.target ≡ true → s ≡ aim_of ws address code s
  unfolding aim_of
  target t = rw t

  module _ (t : s.target ≡ false) where
    pub by_code : s.coded ≡ true → {at : ℕ} → at ≡ entry_of s.table code s.long → aimed_of s false s.consumed s.k at ≡ aim_of ws address code s
    unfolding aim_of
    by_code c ea = rw (ea, t, c)

    pub by_width : s.coded ≡ false → {w index at k' : ℕ} → w ≡ get_or ws s.k 0 → index ≡ top_index address s.consumed w
        → at ≡ entry_of s.table index s.long → k' ≡ next_k s.k → aimed_of s s.coded (s.consumed + w) k' at ≡ aim_of ws address code s
    unfolding aim_of
    by_width c ew ei ea ek = rw (ek, ea, ei, ew, t, c)
