-- A 68030 walk depends only on the longs that it asks for: over two memories that give the same at each of them, it ends alike. Assumes nothing.
use Rattle.std.specs.Prelude.{Option, Some, None}
use Prim.Native.Nat.{ℕ, ◌*◌, ◌/◌, ◌%◌}
use mathlib.Core.Path.{◌≡◌, refl, ap, ◌∙◌}
use mathlib.Core.List.{List, [], ◌∷◌, ◌++◌}
use mathlib.Core.Bool.{Bool, true, false}
use mathlib.Core.Logic.{inl, inr}
use lib.Dec.{leb, ltb, eqb}
use Rattle.definition.specs.Memory.{Memory, fetch_of}
use Rattle.definition.specs.Registers.{root_of}
use Rattle.definition.specs.Walk030.{entry_of, Descriptor, Whole, Lost, short_of, on_second, long_of, read_of, Step, steps_of, Found, Outcome, asking, deeper, guarded, on_target, on_table, on_descriptor, walk_from, start, walk_steps, walk030}
use Rattle.definition.proofs.Replay.{In}
use Rattle.definition.specs.declared.Registers.{Registers}
use Rattle.definition.specs.declared.Root.{Root}
use Rattle.definition.proofs.Choice.{if_both}
use Rattle.definition.proofs.Lists.{in_left, in_right}
use Rattle.definition.proofs.Agree.{Agree, if_same}

-- the addresses of the longs that were asked for
abbrev asked_by : Outcome → List ℕ
asked_by o = o.found.asked

-- the longs asked for a descriptor
abbrev pub asked_for : Descriptor → List ℕ
asked_for (Whole kind field wp sup asked) = asked
asked_for (Lost at asked) = asked

-- ---- one descriptor
short_in : (at : ℕ) (r : Option ℕ) → In at (asked_for (short_of at r))
short_in at (Some first) = inl refl
short_in at None = inl refl

second_in : (first at : ℕ) (r : Option ℕ) → In (entry_of at 1 false) (asked_for (on_second first at (entry_of at 1 false) r))
second_in first at (Some second) = inr (inl refl)
second_in first at None = inr (inl refl)

second_at : (first at : ℕ) (r : Option ℕ) → In at (asked_for (on_second first at (entry_of at 1 false) r))
second_at first at (Some second) = inl refl
second_at first at None = inl refl

long_in : (m : Memory) (at : ℕ) (r : Option ℕ) → In at (asked_for (long_of m at r))
long_in m at (Some first) = second_at first at (fetch_of m (entry_of at 1 false))
long_in m at None = inl refl

module _ (m m' : Memory) where
  long_same : (at : ℕ) (r : Option ℕ) → Agree m m' (asked_for (long_of m at r)) → long_of m at r ≡ long_of m' at r
  long_same at (Some first) h =
      ap (on_second first at (entry_of at 1 false))
      (h (entry_of at 1 false) (second_in first at (fetch_of m (entry_of at 1 false))))
  long_same at None h = refl

  read_same : (at : ℕ) (long : Bool) → Agree m m' (asked_for (read_of m at long)) → read_of m at long ≡ read_of m' at long
  unfolding read_of
  read_same at true h = long_same at (fetch_of m at) h ∙ ap (long_of m' at) (h at (long_in m at (fetch_of m at)))
  read_same at false h = ap (short_of at) (h at (short_in at (fetch_of m at)))

-- ---- what was asked for stays asked for
target_asked : (consumed to : ℕ) (f : Found) (d : Descriptor) → (on_target consumed to f d).found.asked ≡ f.asked ++ asked_for d
target_asked consumed to f (Whole kind field wp sup n) = refl
target_asked consumed to f (Lost lost n) = refl

abbrev Keeps : (ℕ → Bool → Found → Outcome) → Type 0
Keeps next = (a t : ℕ) (l : Bool) (f : Found) → In a f.asked → In a (next t l f).found.asked

abbrev Has : ℕ → Outcome → Type 0
Has a o = In a o.found.asked

module _ (m : Memory) where
  table_keeps : (a consumed kind field : ℕ) (wp sup : Bool) (f : Found) (rest : List Step) (next : ℕ → Bool → Found → Outcome) → Keeps next
      → In a f.asked → In a (on_table m consumed kind field wp sup f rest next).found.asked
  table_keeps a consumed kind field wp sup f [] next k i =
      rw (target_asked consumed (field / 4 * 4) f (read_of m (field / 4 * 4) (eqb kind 3))) (in_left a f.asked _ i)
  table_keeps a consumed kind field wp sup f (step ∷ rest) next k i = k a (field / 16 * 16) (eqb kind 3) (guarded wp sup f) i

  descriptor_keeps : (a consumed at : ℕ) (f : Found) (rest : List Step) (next : ℕ → Bool → Found → Outcome) (d : Descriptor) → Keeps next
      → In a (f.asked ++ asked_for d) → In a (on_descriptor m consumed at f rest next d).found.asked
  descriptor_keeps a consumed at f rest next (Lost lost n) k i = i
  descriptor_keeps a consumed at f rest next (Whole kind field wp sup n) k i =
      if_both (Has a) (eqb kind 1) _ _ i
      (if_both (Has a) (ltb kind 2) _ _ i (table_keeps a consumed kind field wp sup (deeper (asking at n f)) rest next k i))

  walk_keeps : (limit : ℕ) (ss : List Step) → Keeps (λ t l f. walk_from m limit ss t l f)
  unfolding walk_from
  walk_keeps limit [] a t l f i = i
  walk_keeps limit (step ∷ rest) a t l f i =
      if_both (Has a) (leb limit f.levels) _ _ i
      (descriptor_keeps a step.consumed (entry_of t step.index l) f rest _ (read_of m (entry_of t step.index l) l)
      (walk_keeps limit rest) (in_left a f.asked _ i))

-- ---- each choice, table, descriptor and level ends alike
module _ (m m' : Memory) where
  abbrev Same : (ℕ → Bool → Found → Outcome) → (ℕ → Bool → Found → Outcome) → Type 0
  Same next next' = (t : ℕ) (l : Bool) (f : Found) → Agree m m' (next t l f).found.asked → next t l f ≡ next' t l f

  module _ (next next' : ℕ → Bool → Found → Outcome) (s : Same next next') where
    table_same : (consumed kind field : ℕ) (wp sup : Bool) (f : Found) (rest : List Step)
        → Agree m m' (on_table m consumed kind field wp sup f rest next).found.asked
        → on_table m consumed kind field wp sup f rest next ≡ on_table m' consumed kind field wp sup f rest next'
    table_same consumed kind field wp sup f [] q =
        ap (on_target consumed (field / 4 * 4) f)
        (read_same m m' (field / 4 * 4) (eqb kind 3)
        (λ a i. q a (rw (target_asked consumed (field / 4 * 4) f (read_of m (field / 4 * 4) (eqb kind 3))) (in_right a f.asked _ i))))
    table_same consumed kind field wp sup f (step ∷ rest) q = s (field / 16 * 16) (eqb kind 3) (guarded wp sup f) q

    descriptor_same : (consumed at : ℕ) (f : Found) (rest : List Step) (d : Descriptor)
        → Agree m m' (on_descriptor m consumed at f rest next d).found.asked
        → on_descriptor m consumed at f rest next d ≡ on_descriptor m' consumed at f rest next' d
    descriptor_same consumed at f rest (Lost lost n) q = refl
    descriptor_same consumed at f rest (Whole kind field wp sup n) q =
        if_same asked_by m m' (eqb kind 1) _ _ _ _ (λ _. refl)
        (if_same asked_by m m' (ltb kind 2) _ _ _ _ (λ _. refl) (table_same consumed kind field wp sup (deeper (asking at n f)) rest)) q

  from_same : (limit : ℕ) (ss : List Step) (t : ℕ) (l : Bool) (f : Found)
      → Agree m m' (walk_from m limit ss t l f).found.asked → walk_from m limit ss t l f ≡ walk_from m' limit ss t l f
  unfolding walk_from
  from_same limit [] t l f q = refl
  from_same limit (step ∷ rest) t l f q =
      if_same asked_by m m' (leb limit f.levels) _ _ _ _ (λ _. refl)
      (λ q.
      descriptor_same (λ t l f. walk_from m limit rest t l f) (λ t l f. walk_from m' limit rest t l f) (from_same limit rest)
      step.consumed at f rest (read_of m at l) q
      ∙ ap (on_descriptor m' step.consumed at f rest (λ t l f. walk_from m' limit rest t l f))
      (read_same m m' at l
      (λ a i. q a (descriptor_keeps m a step.consumed at f rest _ (read_of m at l) (walk_keeps m limit rest) (in_right a f.asked _ i)))))
      q
    where
      at : ℕ
      at = entry_of t step.index l

  steps_same : (root : Root) (limit : ℕ) (ss : List Step) → Agree m m' (walk_steps m root limit ss).found.asked
      → walk_steps m root limit ss ≡ walk_steps m' root limit ss
  steps_same root limit [] q = refl
  steps_same root limit (step ∷ rest) q =
      if_same asked_by m m' (ltb (root.limit % 4) 2) _ _ _ _ (λ _. refl)
      (from_same limit (step ∷ rest) (root.address / 16 * 16) (eqb (root.limit % 4) 3) (start root.address)) q

  -- the law: the same longs, the same outcome
  pub asked_030 : (g : Registers) (address code limit : ℕ) → Agree m m' (walk030 m g address code limit).found.asked
      → walk030 m g address code limit ≡ walk030 m' g address code limit
  asked_030 g address code limit = steps_same (root_of g code) limit (steps_of g.tc address code)
