-- A 68040 walk depends only on the longs that it asks for. Assumes nothing.
use Rattle.std.specs.Prelude.{Option, Some, None}
use Prim.Native.Nat.{ℕ, ◌*◌, ◌/◌, ◌%◌}
use mathlib.Core.Path.{◌≡◌, refl, ap, ◌∙◌}
use mathlib.Core.List.{List, [], ◌∷◌, ◌++◌}
use mathlib.Core.Bool.{Bool, ◌||◌}
use mathlib.Core.Logic.{inl}
use lib.Dec.{ltb, eqb}
use Rattle.definition.specs.Words.{bit_of}
use Rattle.definition.specs.Memory.{Memory, fetch_of}
use Rattle.definition.specs.Walk040.{Outcome040, on_long, asks, root_at, pointer_at, page_at, on_page, on_entry, on_pointer, on_root, walk040}
use Rattle.definition.proofs.Replay.{In}
use Rattle.definition.specs.declared.FaultCause.TheVariants as cause
use Rattle.definition.specs.declared.Registers.{Registers}
use Rattle.definition.proofs.Choice.{if_both}
use Rattle.definition.proofs.Lists.{in_left, in_right}
use Rattle.definition.proofs.Agree.{Agree, if_same}

-- the addresses of the longs that were asked for
abbrev asked_by : Outcome040 → List ℕ
asked_by o = o.asked

-- ---- what was asked for stays asked for
abbrev Keeps : (ℕ → List ℕ → Outcome040) → Type 0
Keeps next = (a x : ℕ) (asked : List ℕ) → In a asked → In a (next x asked).asked

abbrev Has : ℕ → Outcome040 → Type 0
Has a o = In a o.asked

long_keeps : (a at : ℕ) (before : List ℕ) (next : ℕ → List ℕ → Outcome040) (r : Option ℕ) → Keeps next → In a (before ++ (at ∷ []))
    → In a (on_long at before next r).asked
long_keeps a at before next (Some x) k i = k a x (before ++ (at ∷ [])) i
long_keeps a at before next None k i = i

asks_keeps : (m : Memory) (a at : ℕ) (before : List ℕ) (next : ℕ → List ℕ → Outcome040) → Keeps next → In a before → In a (asks m at before next).asked
asks_keeps m a at before next k i = long_keeps a at before next (fetch_of m at) k (in_left a before (at ∷ []) i)

entry_keeps : (m : Memory) (tables : Bool) → Keeps (λ page asked. on_entry m tables page asked)
entry_keeps m tables a page asked i =
    if_both (Has a) (eqb (page % 4) 2) _ _
    (asks_keeps m a (page / 4 * 4) asked (λ target asked. on_page tables cause.Indirect target asked) (λ a x asked i. i) i) i

pointer_keeps : (m : Memory) (tc address root : ℕ) → Keeps (λ pointer asked. on_pointer m tc address root pointer asked)
pointer_keeps m tc address root a pointer asked i =
    if_both (Has a) (ltb (pointer % 4) 2) _ _ i
    (asks_keeps m a (page_at tc pointer address) asked (λ page asked. on_entry m (bit_of root 2 || bit_of pointer 2) page asked) (entry_keeps m (bit_of root 2 || bit_of pointer 2)) i)

root_keeps : (m : Memory) (tc address : ℕ) → Keeps (λ root asked. on_root m tc address root asked)
root_keeps m tc address a root asked i =
    if_both (Has a) (ltb (root % 4) 2) _ _ i (asks_keeps m a (pointer_at root address) asked (λ pointer asked. on_pointer m tc address root pointer asked) (pointer_keeps m tc address root) i)

-- ---- each long and each level ends alike
module _ (m m' : Memory) where
  abbrev Same : (ℕ → List ℕ → Outcome040) → (ℕ → List ℕ → Outcome040) → Type 0
  Same next next' = (x : ℕ) (asked : List ℕ) → Agree m m' (next x asked).asked → next x asked ≡ next' x asked

  long_same : (at : ℕ) (before : List ℕ) (next next' : ℕ → List ℕ → Outcome040) (r : Option ℕ) → Same next next'
      → Agree m m' (on_long at before next r).asked → on_long at before next r ≡ on_long at before next' r
  long_same at before next next' (Some x) s q = s x (before ++ (at ∷ [])) q
  long_same at before next next' None s q = refl

  asks_same : (at : ℕ) (before : List ℕ) (next next' : ℕ → List ℕ → Outcome040) → Keeps next → Same next next'
      → Agree m m' (asks m at before next).asked → asks m at before next ≡ asks m' at before next'
  asks_same at before next next' k s q =
      long_same at before next next' (fetch_of m at) s q
      ∙ ap (on_long at before next') (q at (long_keeps at at before next (fetch_of m at) k (in_right at before (at ∷ []) (inl refl))))

  entry_same : (tables : Bool) → Same (λ page asked. on_entry m tables page asked) (λ page asked. on_entry m' tables page asked)
  entry_same tables page asked q =
      if_same asked_by m m' (eqb (page % 4) 2) _ _ _ _
      (asks_same (page / 4 * 4) asked (λ target asked. on_page tables cause.Indirect target asked)
      (λ target asked. on_page tables cause.Indirect target asked) (λ a x asked i. i) (λ x asked q. refl))
      (λ q. refl) q

  pointer_same : (tc address root : ℕ)
      → Same (λ pointer asked. on_pointer m tc address root pointer asked) (λ pointer asked. on_pointer m' tc address root pointer asked)
  pointer_same tc address root pointer asked q =
      if_same asked_by m m' (ltb (pointer % 4) 2) _ _ _ _ (λ q. refl)
      (asks_same (page_at tc pointer address) asked _ _ (entry_keeps m (bit_of root 2 || bit_of pointer 2))
      (entry_same (bit_of root 2 || bit_of pointer 2))) q

  root_same : (tc address : ℕ) → Same (λ root asked. on_root m tc address root asked) (λ root asked. on_root m' tc address root asked)
  root_same tc address root asked q =
      if_same asked_by m m' (ltb (root % 4) 2) _ _ _ _ (λ q. refl)
      (asks_same (pointer_at root address) asked _ _ (pointer_keeps m tc address root) (pointer_same tc address root)) q

  -- the law: the same longs, the same outcome
  pub asked_040 : (g : Registers) (address : ℕ) (supervisor : Bool) → Agree m m' (walk040 m g address supervisor).asked
      → walk040 m g address supervisor ≡ walk040 m' g address supervisor
  unfolding walk040
  asked_040 g address supervisor q =
      asks_same (root_at g supervisor address) [] _ _ (root_keeps m g.tc address) (root_same g.tc address) q
