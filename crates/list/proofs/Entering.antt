-- What a table and an entry write, from an address on. Assumes nothing.
use Prim.Native.Nat.{ℕ, ◌+◌, ◌-◌, ◌^◌, ◌<◌}
use mathlib.Core.Path.{◌≡◌, sym, subst, ◌∙◌}
use mathlib.Core.List.{List}
use mathlib.Core.Bool.{Bool, true, false}
use borrow.Author.Tests.{lt-ltb, leb-true, leb-false}
use lib.Dec.{leb}
use lib.ListN.{get_or, drop}
use Rattle.definition.specs.Memory.{Memory}
use Rattle.definition.specs.Words.{bit_of}
use Rattle.definition.specs.Walk030.{widths_of, used}
use Rattle.definition.specs.List.{seen_of, entry_at, none_left, table_ranges, entry_ranges, root_table, code_entry, tree_ranges, end_of, ranges_from}
use Rattle.definition.specs.declared.Root.{Root}
use Rattle.definition.specs.declared.Mapped.{Mapped}
use Rattle.definition.specs.declared.Node.{Node}
use Rattle.definition.specs.declared.Seen.{Seen}
use Rattle.definition.specs.declared.Seen.TheVariants.{Nothing, One, Opens}
use Rattle.definition.proofs.Ascending.{Here, entry_here, entry_inside, dropped}
use Rattle.list.specs.Writing.{Written, put, puts, Placed}
use Rattle.list.proofs.Levels as levels
use Rattle.list.proofs.Output as output

-- ---- a table
module _ (m : Memory) (ws : List ℕ) (k from : ℕ) (t : Node) (w : ℕ) (is : w ≡ get_or ws k 0) where
  -- no level is left
  pub none_left_lem : (l : Written) → w ≡ 0 → l ≡ puts (ranges_from from (table_ranges m (used (drop k ws)) t)) l
  unfolding table_ranges puts ranges_from
  none_left_lem l z = rw (levels.no_level ws k (sym is ∙ z))

  -- before its entries
  pub starts : (n : ℕ) (l : Written) → (w ≡ 0 → ⊥) → n ≡ 2 ^ w
      → output.Going (λ (j : ℕ). ranges_from from (entry_ranges m (used (drop (k + 1) ws)) (entry_at t w j))) n
      (puts (ranges_from from (table_ranges m (used (drop k ws)) t)) l) 0 l
  unfolding table_ranges
  starts n l some size =
      rw (levels.level ws k (λ z. some (is ∙ z)), ← is, ← size, output.from_gather) (output.begins _ n l)

-- ---- an entry
module _ (m : Memory) (ws : List ℕ) (k from : ℕ) (e : Node) (p : Placed ws k e) (l : Written) (skip : Bool)
    (s : skip ≡ leb (e.first + 2 ^ (32 - e.consumed)) from) where
  -- it ends at or before `from`
  pub skips : skip ≡ true → l ≡ puts (ranges_from from (entry_ranges m (used (drop k ws)) e)) l
  unfolding puts
  skips q =
      rw (dropped from (leb-true _ _ (sym s ∙ q))
      (entry_inside m (used (drop k ws)) e (levels.its_levels ws k e p) (levels.its_stretch ws k e p)))

  module _ (last : Bool) (last_is : last ≡ none_left (used (drop k ws))) (z : Seen) (look : z ≡ seen_of m last e) where
    seen_is : z ≡ seen_of m (none_left (used (drop k ws))) e
    seen_is = rw last_is at look

    pub here : Here e z
    here = rw seen_is (entry_here m (none_left (used (drop k ws))) e)

    pub none : z ≡ Nothing → l ≡ puts (ranges_from from (entry_ranges m (used (drop k ws)) e)) l
    unfolding puts ranges_from
    none q = rw (← seen_is, q)

    pub one : (x : Mapped) (l' : Written) → skip ≡ false → z ≡ One x → l' ≡ put x l → l' ≡ puts (ranges_from from (entry_ranges m (used (drop k ws)) e)) l
    unfolding puts ranges_from
    one x l' f q w =
        let on : from < e.first + 2 ^ (32 - e.consumed) = leb-false _ _ (sym s ∙ f) in
        let h = at_one (subst (Here e) q here) in
        rw (← seen_is, q, lt-ltb from (end_of x) (rw (h.0, h.1) on)) w
      where
        at_one : Here e (One x) → (x.first ≡ e.first) × (x.consumed ≡ e.consumed)
        at_one h = h

    pub opens : (t : Node) (l' : Written) → z ≡ Opens t → l' ≡ puts (ranges_from from (table_ranges m (used (drop k ws)) t)) l
        → l' ≡ puts (ranges_from from (entry_ranges m (used (drop k ws)) e)) l
    opens t l' q w = rw (← seen_is, q) w

    pub opened : (t : Node) → z ≡ Opens t → Placed ws k t
    opened t q = levels.opened ws k e t (at_table (subst (Here e) q here)) p
      where
        at_table : Here e (Opens t) → (t.first ≡ e.first) × (t.consumed ≡ e.consumed)
        at_table h = h

-- ---- a tree
module _ (m : Memory) (tc : ℕ) (ws : List ℕ) (root : Root) (t : Node) (code from : ℕ) (b : Bool) (l l' : Written)
    (widths : ws ≡ widths_of tc) (is : t ≡ root_table root) (coded : b ≡ bit_of tc 24) where
  pub by_code : (e : Node) → b ≡ true → e ≡ code_entry t code → l' ≡ puts (ranges_from from (entry_ranges m (used (drop 0 ws)) e)) l
      → l' ≡ puts (ranges_from from (tree_ranges m tc root code)) l
  unfolding tree_ranges
  by_code e q its w = rw (← coded, q) (rw (its, is, widths) at w)

  pub by_table : b ≡ false → l' ≡ puts (ranges_from from (table_ranges m (used (drop 0 ws)) t)) l → l' ≡ puts (ranges_from from (tree_ranges m tc root code)) l
  unfolding tree_ranges
  by_table q w = rw (← coded, q) (rw (is, widths) at w)
