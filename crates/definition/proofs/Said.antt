-- What an audit says: which entry it names, that it passes none over, and that going on from each named one names every stale one once. Assumes nothing.
use Prim.Native.Nat.{ℕ, zero, suc, ◌+◌, ◌-◌, ◌≤◌, ◌<◌}
use mathlib.Core.Path.{◌≡◌, refl, ap, sym, subst, ◌∙◌}
use mathlib.Core.Logic.{◌⊎◌, inl, inr, ⊎_elim}
use mathlib.Core.List.{List, [], ◌∷◌}
use mathlib.Core.Bool.{Bool, true, false, ◌&&◌, false≢true}
use native.Mathlib.Omega.{arith}
use native.Mathlib.Decide.{dec_le}
use borrow.Author.Tests.{ltb-true, ltb-false, eqb-true, eqb-false, eq-eqb}
use lib.Dec.{eqb, ltb}
use lib.ListN.{length, get_or, drop, length-drop}
use lib.Seq.{get_or-drop}
use Rattle.std.specs.Prelude.{if◌then◌else◌, Option, Some, None}
use Rattle.definition.specs.Words.{first_of}
use Rattle.definition.specs.Memory.{Memory}
use Rattle.definition.specs.Walk030.{shift_of}
use Rattle.definition.specs.Cache030.{Cache030, no_entry}
use Rattle.definition.specs.Cache040.{no_slot}
use Rattle.definition.specs.Refusal.{refusal_of}
use Rattle.definition.specs.Translate.{Caches}
use Rattle.definition.specs.Audit.{first_from, stale030, first_stale030, stale040, first_stale040, named, audit_family, audit_checks, audit_from}
use Rattle.definition.proofs.Replay.{In}
use Rattle.definition.specs.declared.Audit.{Audit}
use Rattle.definition.specs.declared.Audit.TheVariants as audit'
use Rattle.definition.specs.declared.Registers.{Registers}
use Rattle.definition.proofs.Choice.{if_by, and_left}
use Rattle.definition.proofs.Lists.{first_passes, first_least, none_passes}

-- ---- the first from an index on
-- n is the first index at `from` or above that passes, and `size` or more where none does
pub record Next (p : ℕ → Bool) (from size n : ℕ) : Type 0 where
  pub above : n < size → from ≤ n
  pub passes : n < size → p n ≡ true
  pub least : (j : ℕ) → from ≤ j → j < n → p j ≡ false
  pub none : size ≤ n → (j : ℕ) → from ≤ j → p j ≡ false

module _ {X : Type 0} (p : X → Bool) (d : X) (no_default_lem : p d ≡ false) (l : List X) (from : ℕ) where
  -- the entry at from + k is at k of those from there on
  at_drop : (j : ℕ) → from ≤ j → p (get_or (drop from l) (j - from) d) ≡ p (get_or l j d)
  at_drop j h =
      let e : from + (j - from) ≡ j = omega arith in
      ap p (get_or-drop from l (j - from) d ∙ ap (λ (k : ℕ). get_or l k d) e)

  first_next : Next (λ (i : ℕ). p (get_or l i d)) from (length l) (first_from p from l)
  first_next =
      let size = length-drop from l in
      record {
        above = λ h. omega arith;
        passes = λ h.
            let e : first_of p (drop from l) + from - from ≡ first_of p (drop from l) = omega arith in
            sym (at_drop (first_from p from l) (omega arith))
            ∙ ap (λ (k : ℕ). p (get_or (drop from l) k d)) e
            ∙ first_passes p (drop from l) d (omega (arith, size));
        least = λ j h k. sym (at_drop j h) ∙ first_least p (drop from l) d (j - from) (omega arith);
        none = λ h j k. sym (at_drop j k) ∙ none_passes p (drop from l) d no_default_lem (omega (arith, size)) (j - from);
      }

-- where none passes, any index past the end will do
all_fail : (p : ℕ → Bool) → ((j : ℕ) → p j ≡ false) → (from size : ℕ) → Next p from size size
all_fail p f from size =
    record { above = λ h. absurd (omega arith); passes = λ h. absurd (omega arith); least = λ j h k. f j; none = λ h j k. f j }

-- ---- the entries of the family's cache
-- entry i of the 68030 cache is stale, under TC's shift
abbrev stale_in : Registers → Memory → Cache030 → ℕ → Option ℕ → Bool
stale_in g m c i None = false
stale_in g m c i (Some s) = eqb c.shift s && stale030 g m s (get_or c.entries i no_entry)

-- entry i of the family's cache is stale
abbrev stale_by : Bool → Registers → Memory → Caches → ℕ → Bool
stale_by true g m c i = stale_in g m c.c030 i (shift_of g.tc)
stale_by false g m c i = stale040 g m (get_or c.c040.slots i no_slot)

abbrev pub stale_at : Registers → Memory → Caches → ℕ → Bool
stale_at g m c i = stale_by (eqb g.family 30) g m c i

-- and how many there are
abbrev size_by : Bool → Caches → ℕ
size_by true c = length c.c030.entries
size_by false c = length c.c040.slots

abbrev pub size_of : Registers → Caches → ℕ
size_of g c = size_by (eqb g.family 30) c

no_entry_stale : (g : Registers) (m : Memory) (s : ℕ) → stale030 g m s no_entry ≡ false
unfolding stale030
no_entry_stale g m s = refl

no_slot_stale : (g : Registers) (m : Memory) → stale040 g m no_slot ≡ false
unfolding stale040
no_slot_stale g m = refl

-- ---- what the audit says
-- nothing refuses it, and entry i is the first stale one at `from` or above
pub record Names (g : Registers) (m : Memory) (c : Caches) (from i : ℕ) : Type 0 where
  pub accepted : refusal_of (audit_checks g m c) ≡ 0
  pub above : from ≤ i
  pub within : i < size_of g c
  pub stale : stale_at g m c i ≡ true
  pub least : (j : ℕ) → from ≤ j → j < i → stale_at g m c j ≡ false

-- each answer, by its cases
abbrev pub Says : Registers → Memory → Caches → ℕ → Audit → Type 0
Says g m c from audit'.Clean = (refusal_of (audit_checks g m c) ≡ 0) × ((j : ℕ) → from ≤ j → stale_at g m c j ≡ false)
Says g m c from (audit'.Stale030 i) = (eqb g.family 30 ≡ true) × Names g m c from i
Says g m c from (audit'.Stale040 i) = (eqb g.family 30 ≡ false) × Names g m c from i
Says g m c from (audit'.Refused n) = (refusal_of (audit_checks g m c) ≡ n) × (n ≡ 0 → ⊥)

module _ (g : Registers) (m : Memory) (c : Caches) (from : ℕ) (accepted : refusal_of (audit_checks g m c) ≡ 0) where
  named_says : (b : Bool) → eqb g.family 30 ≡ b → (name : ℕ → Audit) → ((i : ℕ) → Names g m c from i → Says g m c from (name i))
      → (n : ℕ) → Next (stale_by b g m c) from (size_by b c) n → Says g m c from (named name (size_by b c) n)
  named_says b f name say n =
      subst (λ (b : Bool). Next (stale_by b g m c) from (size_by b c) n → Says g m c from (named name (size_by b c) n)) f
      (λ k.
      if_by (Says g m c from) (ltb n (size_of g c)) _ _
      (λ t.
      let l = ltb-true n (size_of g c) t in
      say n (record { accepted = accepted; above = k.above l; within = l; stale = k.passes l; least = k.least }))
      (λ f. (accepted, k.none (ltb-false n (size_of g c) f))))

  next_030 : (sh : Option ℕ) → Next (λ (i : ℕ). stale_in g m c.c030 i sh) from (length c.c030.entries) (first_stale030 g m c.c030 from sh)
  next_030 None = all_fail _ (λ j. refl) from (length c.c030.entries)
  next_030 (Some s) = go (eqb c.c030.shift s)
    where
      go : (b : Bool) → Next (λ (i : ℕ). b && stale030 g m s (get_or c.c030.entries i no_entry)) from (length c.c030.entries)
          (if b then first_from (stale030 g m s) from c.c030.entries else length c.c030.entries)
      go true = first_next (stale030 g m s) no_entry (no_entry_stale g m s) c.c030.entries from
      go false = all_fail _ (λ j. refl) from (length c.c030.entries)

  family_says : Says g m c from (audit_family g m c from)
  unfolding audit_family
  family_says =
      if_by (Says g m c from) (eqb g.family 30) _ _
      (λ f. named_says true f (λ (i : ℕ). Audit.Stale030 i) (λ i n. (f, n)) (first_stale030 g m c.c030 from (shift_of g.tc)) (next_030 (shift_of g.tc)))
      (λ f.
      named_says false f (λ (i : ℕ). Audit.Stale040 i) (λ i n. (f, n)) (first_stale040 g m c.c040 from)
      (first_next (stale040 g m) no_slot (no_slot_stale g m) c.c040.slots from))

-- the law: what the audit says is so
pub audit_says : (g : Registers) (m : Memory) (c : Caches) (from : ℕ) → Says g m c from (audit_from g m c from)
unfolding audit_from
audit_says g m c from =
    if_by (Says g m c from) (eqb (refusal_of (audit_checks g m c)) 0) _ _
    (λ t. family_says g m c from (eqb-true (refusal_of (audit_checks g m c)) 0 t))
    (λ f. (refl, eqb-false (refusal_of (audit_checks g m c)) 0 f))

pub says_by : (g : Registers) (m : Memory) (c : Caches) (from : ℕ) (a : Audit) → audit_from g m c from ≡ a → Says g m c from a
says_by g m c from a e = subst (Says g m c from) e (audit_says g m c from)

-- of the one cache and of the other
pub stale_at_030 : (g : Registers) (m : Memory) (c : Caches) (i : ℕ) → eqb g.family 30 ≡ true → shift_of g.tc ≡ Some c.c030.shift
    → stale_at g m c i ≡ stale030 g m c.c030.shift (get_or c.c030.entries i no_entry)
stale_at_030 g m c i f e =
    ap (λ (b : Bool). stale_by b g m c i) f ∙ ap (stale_in g m c.c030 i) e ∙ rw (eq-eqb c.c030.shift c.c030.shift refl)

pub stale_at_040 : (g : Registers) (m : Memory) (c : Caches) (i : ℕ) → eqb g.family 30 ≡ false → stale_at g m c i ≡ stale040 g m (get_or c.c040.slots i no_slot)
stale_at_040 g m c i f = ap (λ (b : Bool). stale_by b g m c i) f

-- an entry of the 68030 cache is stale under TC's shift
pub stale_shift : (g : Registers) (m : Memory) (c : Caches) (i : ℕ) → eqb g.family 30 ≡ true → stale_at g m c i ≡ true → shift_of g.tc ≡ Some c.c030.shift
stale_shift g m c i f t = go (shift_of g.tc) refl (sym (ap (λ (b : Bool). stale_by b g m c i) f) ∙ t)
  where
    go : (sh : Option ℕ) → shift_of g.tc ≡ sh → stale_in g m c.c030 i sh ≡ true → shift_of g.tc ≡ Some c.c030.shift
    go None e t = absurd (false≢true t)
    go (Some s) e t = e ∙ ap (λ (n : ℕ). Some n) (sym (eqb-true c.c030.shift s (and_left (eqb c.c030.shift s) _ t)))

-- ---- going on
-- entry i is named
abbrev pub name_of : Registers → ℕ → Audit
name_of g i = if eqb g.family 30 then Audit.Stale030 i else Audit.Stale040 i

-- the indices that the audit names from an index, and then from each named one plus 1, until it says Clean
pub data Goes (g : Registers) (m : Memory) (c : Caches) : ℕ → List ℕ → Type 0 where
  over : {from : ℕ} → audit_from g m c from ≡ Audit.Clean → Goes g m c from []
  next : {from i : ℕ} {l : List ℕ} → audit_from g m c from ≡ name_of g i → Goes g m c (suc i) l → Goes g m c from (i ∷ l)

module _ (g : Registers) (m : Memory) (c : Caches) where
  names_by : (from i : ℕ) → audit_from g m c from ≡ name_of g i → Names g m c from i
  names_by from i e = go (eqb g.family 30) refl (audit_says g m c from)
    where
      go : (b : Bool) → eqb g.family 30 ≡ b → Says g m c from (audit_from g m c from) → Names g m c from i
      go true f h = let k : Says g m c from (Audit.Stale030 i) = rw (e, f) at h in k.1
      go false f h = let k : Says g m c from (Audit.Stale040 i) = rw (e, f) at h in k.1

  here_or_later : (from i j : ℕ) → Names g m c from i → from ≤ j → stale_at g m c j ≡ true → (j ≡ i) ⊎ (suc i ≤ j)
  here_or_later from i j n h t = choose (dec_le j i)
    where
      choose : Dec (j ≤ i) → (j ≡ i) ⊎ (suc i ≤ j)
      choose (yes k) = choose' (dec_le i j) k
        where
          choose' : Dec (i ≤ j) → j ≤ i → (j ≡ i) ⊎ (suc i ≤ j)
          choose' (yes d) k = inl (omega arith)
          choose' (no d) k = absurd (false≢true (sym (n.least j h (omega arith)) ∙ t))
      choose (no k) = inr (omega arith)

  -- every stale entry is named
  pub each_named : {from : ℕ} {l : List ℕ} → Goes g m c from l → (j : ℕ) → from ≤ j → stale_at g m c j ≡ true → In j l
  each_named {from} (over e) j h t = absurd (false≢true (sym ((says_by g m c from Audit.Clean e).1 j h) ∙ t))
  each_named {from} (next {i = i} {l = l} e more) j h t =
      ⊎_elim (λ (k : j ≡ i). inl k) (λ (k : suc i ≤ j). inr (each_named more j k t)) (here_or_later from i j (names_by from i e) h t)

  -- what is named is stale, and none is named twice: those after it are above it
  pub only_stale : {from : ℕ} {l : List ℕ} → Goes g m c from l → (j : ℕ) → In j l → (from ≤ j) × (stale_at g m c j ≡ true)
  only_stale (over {from = from} _) j x5 = elim x5 [ ]
  only_stale {from} (next {i = i} e more) j (inl is) = let n = names_by from i e in (rw is n.above, rw is n.stale)
  only_stale {from} (next {i = i} e more) j (inr k) =
      let n = names_by from i e in
      let d = only_stale more j k in
      (omega (arith, n.above, d.0), d.1)

  -- and it comes to an end
  module _ (r : refusal_of (audit_checks g m c) ≡ 0) where
    goes_by : (from : ℕ) → ((i : ℕ) → Names g m c from i → (l : List ℕ) × Goes g m c (suc i) l) → (l : List ℕ) × Goes g m c from l
    goes_by from more = go (audit_from g m c from) refl (audit_says g m c from)
      where
        go : (a : Audit) → audit_from g m c from ≡ a → Says g m c from a → (l : List ℕ) × Goes g m c from l
        go audit'.Clean e s = ([], over e)
        go (audit'.Stale030 i) e s = let k = more i s.1 in (i ∷ k.0, next {i = i} (e ∙ rw s.0) k.1)
        go (audit'.Stale040 i) e s = let k = more i s.1 in (i ∷ k.0, next {i = i} (e ∙ rw s.0) k.1)
        go (audit'.Refused n) e s = absurd (s.1 (sym s.0 ∙ r))

    pub goes_on : (n from : ℕ) → size_of g c ≤ from + n → (l : List ℕ) × Goes g m c from l
    goes_on zero from h = goes_by from (λ i k. absurd (omega (arith, k.above, k.within)))
    goes_on (suc n) from h = goes_by from (λ i k. goes_on n (suc i) (omega (arith, k.above)))
