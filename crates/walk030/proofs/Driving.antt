-- The loop of `walk_030`: what is known where a walk stands before a descriptor, that each way out gives the definition's outcome, and that a turn that
-- goes on keeps it. Assumes nothing.
use Prim.Native.Nat.{ℕ, suc, ◌+◌, ◌-◌, ◌*◌, ◌/◌, ◌%◌, ◌≤◌, ◌<◌}
use mathlib.Core.Path.{◌≡◌, refl, ap, sym, subst, ◌∙◌}
use mathlib.Core.List.{List, [], ◌∷◌, ◌++◌}
use mathlib.Core.Bool.{Bool, true, false, ◌||◌, and-false, or-true, or-false}
use native.Mathlib.Omega.{arith}
use native.Mathlib.Numerals.{add-one}
use native.Mathlib.Decide.{dec_le}
use borrow.Author.Tests.{eqb-true, eqb-false, ne_eqb, le-leb, lt-leb, lt-ltb}
use lib.Dec.{eqb, ltb}
use lib.ListN.{length, get_or, drop, length-append, length-drop, drop_of_length-le}
use lib.Seq.{drop-cons}
use Rattle.std.specs.Prelude.{if◌then◌else◌, Option, Some, None, Result, Ok, Err}
use Rattle.std.proofs.lemmas.Option.{none-some}
use Rattle.definition.specs.Words.{bit_of}
use Rattle.definition.specs.Memory.{Memory, fetch_of}
use Rattle.definition.specs.Walk030.{entry_of, Descriptor, Whole, Lost, short_of, long_of, on_second, read_of, is_of, used, widths_of, top_index, Step, steps, steps_with, Found, Outcome, ended, asking, deeper, guarded, by_kind, on_target, on_table, on_descriptor, walk_from, start, walk_steps, outcome_of, walk030}
use Rattle.definition.specs.Registers.{root_of}
use Rattle.definition.specs.declared.Registers.{Registers}
use Rattle.definition.specs.declared.Root.{Root}
use Rattle.definition.proofs.Asked030.{asked_for}
use Rattle.memory.specs.Descriptors.{kind_of, shown_read}
use Rattle.memory.specs.declared.descriptor.Descriptor.{Descriptor as Read}
use Rattle.memory.specs.declared.descriptor.Lost.{Lost as Gone}
use Rattle.memory.specs.declared.descriptor.Kind.{Kind}
use Rattle.memory.specs.declared.descriptor.Kind.TheVariants as given
use Rattle.definition.specs.declared.End.{End}
use Rattle.definition.specs.declared.End.TheVariants.{Page, Invalid, LevelStop, BusError, Config}
use Rattle.walk030.specs.Walked.{shown}
use Rattle.walk030.specs.Machine.{no_walk, begun_of, begin_of, at_limit, aimed_of, next_k, aim_of, adds_of, asked_of, levels_of, held_of, seen_of, to_target, to_table, onward_of, answered}
use Rattle.walk030.specs.declared.Walked.{Walked}
use Rattle.walk030.specs.declared.machine.Walking030.{Walking030}
use Rattle.memory.proofs.Tests.{clash}
use Rattle.memory.proofs.Shown.{type_of, lost_is, whole_is, kind_is, page_is, invalid_is, table_is}
use Rattle.memory.proofs.Widths.{used_at, width_small, widths_few}
use Rattle.walk030.proofs.Aiming as aim

-- ---- what a descriptor asks for
second_few : (first at next : ℕ) (r : Option ℕ) → length (asked_for (on_second first at next r)) ≤ 2
second_few first at next (Some second) = omega arith
second_few first at next None = omega arith

long_few : (m : Memory) (at : ℕ) (r : Option ℕ) → length (asked_for (long_of m at r)) ≤ 2
long_few m at (Some first) = second_few first at (entry_of at 1 false) (fetch_of m (entry_of at 1 false))
long_few m at None = omega arith

short_few : (at : ℕ) (r : Option ℕ) → length (asked_for (short_of at r)) ≤ 2
short_few at (Some first) = omega arith
short_few at None = omega arith

read_few : (m : Memory) (at : ℕ) (long : Bool) → length (asked_for (read_of m at long)) ≤ 2
unfolding read_of
read_few m at true = long_few m at (fetch_of m at)
read_few m at false = short_few at (fetch_of m at)

-- the code counts them
counted : (d : Descriptor) → asked_of (shown_read d) ≡ length (asked_for d)
counted (Whole kind field wp sup x) = refl
counted (Lost at x) = refl

-- where a walk begins
begin_is : (tc : ℕ) (root : Root) (n : ℕ)
    → begin_of tc root n ≡ (if no_walk (root.limit % 4) n (bit_of tc 24) then None else Some (begun_of tc root (eqb (root.limit % 4) 3)))
begin_is tc root n = go (eqb (root.limit % 4) 1) refl (ltb (root.limit % 4) 2) refl
  where
    go : (a : Bool) → eqb (root.limit % 4) 1 ≡ a → (b : Bool) → ltb (root.limit % 4) 2 ≡ b
        → begin_of tc root n ≡ (if no_walk (root.limit % 4) n (bit_of tc 24) then None else Some (begun_of tc root (eqb (root.limit % 4) 3)))
    go true e b f = let h = eqb-true (root.limit % 4) 1 e in let l : ltb (root.limit % 4) 2 ≡ true = lt-ltb (root.limit % 4) 2 (omega arith) in rw (e, l)
    go false e true f = rw (e, f)
    go false e false f = rw (e, f)

steps_length : (address consumed : ℕ) (ws : List ℕ) → length (steps address consumed ws) ≡ length ws
steps_length address consumed [] = refl
steps_length address consumed (w ∷ ws) = ap suc (steps_length address (consumed + w) ws)

-- what was found, as the machine has it
abbrev pub found : Walking030 → List ℕ → Found
found s asked = record { wp = s.wp; sup = s.sup; levels = s.levels; last = s.last; asked = asked }

-- the last descriptor's address stands in the outcome of the next one only
abbrev at_last : ℕ → Found → Found
at_last last f = record { wp = f.wp; sup = f.sup; levels = f.levels; last = last; asked = f.asked }

target_last : (consumed at last : ℕ) (f : Found) (d : Descriptor) → on_target consumed at f d ≡ on_target consumed at (at_last last f) d
target_last consumed at last f (Lost lost n) = refl
target_last consumed at last f (Whole kind field wp sup n) = refl

level_last : (m : Memory) (consumed at last : ℕ) (f : Found) (ss : List Step) (next : ℕ → Bool → Found → Outcome) (d : Descriptor)
    → on_descriptor m consumed at f ss next d ≡ on_descriptor m consumed at (at_last last f) ss next d
level_last m consumed at last f ss next (Lost lost n) = refl
level_last m consumed at last f ss next (Whole kind field wp sup n) = refl

module _ (m : Memory) (tc : ℕ) (root : Root) (address code limit : ℕ) where
  abbrev pub us : List ℕ
  us = used (widths_of tc)

  abbrev pub whole : Outcome
  whole = outcome_of m tc root address code limit

  -- the levels of the widths left, and with the function code's
  abbrev pub later : Walking030 → List Step
  later s = steps address s.consumed (drop s.k us)

  abbrev pub ahead : Walking030 → List Step
  ahead s = steps_with s.coded code address s.consumed (drop s.k us)

  later_length : (s : Walking030) → length (later s) ≡ length us - s.k
  later_length s = steps_length address s.consumed (drop s.k us) ∙ length-drop s.k us

  -- the walk from here: before a descriptor, and once the descriptor d of the next place is read
  abbrev pub rest : Walking030 → List ℕ → Outcome
  rest s asked =
      if s.target
      then on_target s.consumed s.last (found s asked) (read_of m s.last s.long)
      else walk_from m limit (ahead s) s.table s.long (found s asked)

  abbrev pub onward : Walking030 → List ℕ → Descriptor → Outcome
  onward s asked d =
      if s.target
      then on_target s.consumed s.last (found s asked) d
      else on_descriptor m s.consumed s.last (found s asked) (later s) (λ t l f. walk_from m limit (later s) t l f) d

  -- how many descriptors can still be read
  abbrev pub rank : Walking030 → ℕ
  rank s = if s.target then 1 else suc (length (ahead s))

  -- ---- at the loop's head
  pub record Stands (s : Walking030) (asked : List ℕ) : Type 0 where
    pub same : whole ≡ rest s asked
    pub count : length asked ≡ s.asked
    pub some : s.target ≡ false → 0 < length (ahead s)
    pub k≤ : s.k ≤ length us
    pub consumed≤ : s.consumed ≤ 15 + 15 * s.k
    pub levels≤ : s.levels + rank s ≤ 6
    pub asked≤ : s.asked + 2 * rank s ≤ 12

  -- with the longs asked for so far
  pub record Standing (s : Walking030) : Type 0 where
    pub asked : List ℕ
    pub stands : Stands s asked

  -- once the next descriptor's place is known; r was left
  pub record Aims (r : ℕ) (s : Walking030) (asked : List ℕ) : Type 0 where
    pub same : whole ≡ onward s asked (read_of m s.last s.long)
    pub count : length asked ≡ s.asked
    pub plain : s.target ≡ false → (s.coded ≡ false) × (suc (length (later s)) < r)
    pub k≤ : s.k ≤ length us
    pub consumed≤ : s.consumed ≤ 15 + 15 * s.k
    pub levels≤ : s.levels + r ≤ 6
    pub asked≤ : s.asked + 2 * r ≤ 12

  stop : (ss : List Step) (table : ℕ) (long : Bool) (f : Found) → 0 < length ss → limit ≤ f.levels → walk_from m limit ss table long f ≡ ended LevelStop f
  unfolding walk_from
  stop [] table long f h l = absurd (omega arith)
  stop (step ∷ ss) table long f h l = rw (le-leb limit f.levels l)

  walks : (step : Step) (ss : List Step) (table : ℕ) (long : Bool) (f : Found) → f.levels < limit
      → walk_from m limit (step ∷ ss) table long f
      ≡ on_descriptor m step.consumed (entry_of table step.index long) f ss (λ t l g. walk_from m limit ss t l g) (read_of m (entry_of table step.index long) long)
  unfolding walk_from
  walks step ss table long f l = rw (lt-leb limit f.levels l)

  -- ---- the level stop, and the next descriptor's place
  module _ (s : Walking030) (asked : List ℕ) (st : Stands s asked) where
    stops : at_limit limit s ≡ true → whole ≡ ended LevelStop (found s asked)
    stops h = st.same ∙ go s.target refl (dec_le limit s.levels)
      where
        go : (t : Bool) → s.target ≡ t → Dec (limit ≤ s.levels) → rest s asked ≡ ended LevelStop (found s asked)
        go true t l = absurd (clash (sym (rw t at h)))
        go false t (yes l) = rw t (stop (ahead s) s.table s.long (found s asked) (st.some t) l)
        go false t (no l) = absurd (clash (sym (rw (t, lt-leb limit s.levels (omega arith)) at h)))

    aims_target : s.target ≡ true → Aims (rank s) s asked
    aims_target t =
        record {
          same = st.same ∙ rw t;
          count = st.count;
          plain = λ f. absurd (clash (sym t ∙ f));
          k≤ = st.k≤;
          consumed≤ = st.consumed≤;
          levels≤ = st.levels≤;
          asked≤ = st.asked≤;
        }

    module _ (t : s.target ≡ false) (l : s.levels < limit) where
      walking : whole ≡ walk_from m limit (ahead s) s.table s.long (found s asked)
      walking = st.same ∙ rw t

      rank_is : rank s ≡ suc (length (ahead s))
      rank_is = rw t

      -- at a level's descriptor, by its index
      aims_at : (b : Bool) (index consumed k : ℕ) → b ≡ false → ahead s ≡ record { index = index; consumed = consumed } ∷ steps address consumed (drop k us)
          → k ≤ length us → consumed ≤ 15 + 15 * k → Aims (rank s) (aimed_of s b consumed k (entry_of s.table index s.long)) asked
      aims_at b index consumed k eb es hk hc =
          let at = entry_of s.table index s.long in
          let ss = steps address consumed (drop k us) in
          record {
            same = rw t
                (walking ∙ ap (λ (l : List Step). walk_from m limit l s.table s.long (found s asked)) es
                ∙ walks (record { index = index; consumed = consumed }) ss s.table s.long (found s asked) l
                ∙ level_last m consumed at at (found s asked) ss (λ t l g. walk_from m limit ss t l g) (read_of m at s.long));
            count = st.count;
            plain = λ f. (eb, omega (arith, rank_is, ap length es));
            k≤ = hk;
            consumed≤ = hc;
            levels≤ = st.levels≤;
            asked≤ = st.asked≤;
          }

      aims_code : s.coded ≡ true → Aims (rank s) (aimed_of s false s.consumed s.k (entry_of s.table code s.long)) asked
      aims_code c = aims_at false code s.consumed s.k refl (rw c) st.k≤ st.consumed≤

      module _ (c : s.coded ≡ false) where
        width_left : s.k < length us
        width_left = let h = rw c at (st.some t) in omega (arith, later_length s)

        aims_width : Aims (rank s) (aimed_of s s.coded (s.consumed + get_or (widths_of tc) s.k 0) (next_k s.k)
            (entry_of s.table (top_index address s.consumed (get_or (widths_of tc) s.k 0)) s.long)) asked
        aims_width =
            let h : s.k < length us = width_left in
            let next : next_k s.k ≡ s.k + 1 = rw (lt-ltb s.k 4 (omega (arith, widths_few tc))) in
            aims_at s.coded (top_index address s.consumed (get_or (widths_of tc) s.k 0)) (s.consumed + get_or (widths_of tc) s.k 0) (next_k s.k) c
            (rw (c, next, add-one, drop-cons us s.k 0, (used_at (widths_of tc) s.k h).0)) (omega arith)
            (omega (arith, st.consumed≤, width_small tc s.k))

    aimed : at_limit limit s ≡ false → Aims (rank s) (aim_of (widths_of tc) address code s) asked
    aimed h = go s.target refl (dec_le limit s.levels) s.coded refl
      where
        by : {s₁ s₂ : Walking030} → s₁ ≡ s₂ → Aims (rank s) s₁ asked → Aims (rank s) s₂ asked
        by e a = rw (← e) a

        go : (b : Bool) → s.target ≡ b → Dec (limit ≤ s.levels) → (c : Bool) → s.coded ≡ c → Aims (rank s) (aim_of (widths_of tc) address code s) asked
        go true t l c e = by (aim.target (widths_of tc) address code s t) (aims_target t)
        go false t (yes l) c e = absurd (clash (rw (t, le-leb limit s.levels l) at h))
        go false t (no l) true e = by (aim.by_code (widths_of tc) address code s t e refl) (aims_code t (omega arith) e)
        go false t (no l) false e = by (aim.by_width (widths_of tc) address code s t e refl refl refl refl) (aims_width t (omega arith) e)

  -- ---- what a descriptor decides, where s holds what was found with it
  abbrev decided : Walking030 → List ℕ → ℕ → ℕ → Outcome
  decided s asked kind field =
      if eqb kind 1
      then ended (Page field s.consumed) (found s asked)
      else if by_kind kind true false s.target then ended (Invalid s.target) (found s asked) else rest (onward_of (length us) s (eqb kind 3) field) asked

  lost : (s : Walking030) (asked : List ℕ) (at : ℕ) (x : List ℕ)
      → onward s asked (Lost at x) ≡ ended (BusError at) (found (seen_of (length us) s (shown_read (Lost at x))) (asked ++ x))
  unfolding seen_of
  lost s asked at x = go s.target
    where
      go : (t : Bool) → (if t then ended (BusError at) (asking s.last x (found s asked)) else ended (BusError at) (asking s.last x (found s asked)))
          ≡ ended (BusError at) (asking s.last x (found s asked))
      go true = refl
      go false = refl

  module _ (r : ℕ) (s : Walking030) (asked : List ℕ) (a : Aims r s asked) (kind field : ℕ) (x : List ℕ) (wp sup : Bool) where
    -- with the descriptor, and with the longs asked for it
    abbrev with_it : Walking030
    with_it = seen_of (length us) s (shown_read (Whole kind field wp sup x))

    abbrev grown : List ℕ
    grown = asked ++ x

    abbrev held : Bool → Bool → ℕ → Walking030
    held w p n = held_of s w p n (s.asked + length x)

    decides_target : s.target ≡ true → onward s asked (Whole kind field wp sup x) ≡ decided with_it grown kind field
    unfolding seen_of
    decides_target t = rw t (go (eqb kind 1) (ltb kind 2) (asking s.last x (found s asked)) _)
      where
        go : (b c : Bool) (f : Found) (o : Outcome)
            → ended (if b then Page field s.consumed else Invalid true) (guarded wp sup f)
            ≡ (if b then ended (Page field s.consumed) (guarded wp sup f) else if (if b then false else if c then true else true) then ended (Invalid true) (guarded wp sup f) else o)
        go true c f o = refl
        go false true f o = refl
        go false false f o = refl

    module _ (t : s.target ≡ false) where
      -- after this descriptor
      abbrev after : Found
      after = deeper (asking s.last x (found s asked))

      abbrev table_next : Outcome
      table_next = on_table m s.consumed kind field wp sup after (later s) (λ t l f. walk_from m limit (later s) t l f)

      to_target_lem : s.k ≡ length us → table_next ≡ rest (to_target (held s.wp s.sup (s.levels + 1)) (eqb kind 3) field) grown
      to_target_lem e =
          rw (drop_of_length-le us {i = s.k} (omega arith)) (target_last s.consumed (field / 4 * 4) (field / 4 * 4) after (read_of m (field / 4 * 4) (eqb kind 3)))

      some_later : (s.k ≡ length us → ⊥) → 0 < length (later s)
      some_later e = omega (arith, later_length s, a.k≤)

      to_table_lem : (s.k ≡ length us → ⊥) → table_next ≡ walk_from m limit (later s) (field / 16 * 16) (eqb kind 3) (guarded wp sup after)
      to_table_lem e = go (later s) (some_later e)
        where
          go : (ss : List Step) → 0 < length ss
              → on_table m s.consumed kind field wp sup after ss (λ t l f. walk_from m limit ss t l f) ≡ walk_from m limit ss (field / 16 * 16) (eqb kind 3) (guarded wp sup after)
          go [] h = absurd (omega arith)
          go (step ∷ ss) h = refl

      -- with its WP and S, or without
      adding : adds_of (length us) s (kind_of kind) ≡ true → with_it ≡ held (s.wp || wp) (s.sup || sup) (s.levels + 1)
      unfolding seen_of
      adding e = rw (e, t)

      keeping : adds_of (length us) s (kind_of kind) ≡ false → with_it ≡ held s.wp s.sup (s.levels + 1)
      unfolding seen_of
      keeping e = rw (e, t, or-false s.wp, or-false s.sup)

      decides_level : onward s asked (Whole kind field wp sup x) ≡ decided with_it grown kind field
      decides_level = go (eqb kind 1) refl (ltb kind 2) refl (eqb s.k (length us)) refl
        where
          go : (b : Bool) → eqb kind 1 ≡ b → (c : Bool) → ltb kind 2 ≡ c → (e : Bool) → eqb s.k (length us) ≡ e
              → onward s asked (Whole kind field wp sup x) ≡ decided with_it grown kind field
          go true hb c hc e he = rw (adding (rw (t, hb)), t, hb)
          go false hb true hc e he = rw (keeping (rw (t, hb, hc)), t, hb, hc)
          go false hb false hc true he = rw (keeping (rw (t, hb, hc, he)), t, hb, hc, he) (to_target_lem (eqb-true s.k (length us) he))
          go false hb false hc false he = rw (adding (rw (t, hb, hc, he)), t, hb, hc, he, (a.plain t).0) (to_table_lem (eqb-false s.k (length us) he))

      -- the walk goes on
      goes_on : length x ≤ 2 → whole ≡ rest (onward_of (length us) with_it (eqb kind 3) field) grown
          → Stands (onward_of (length us) with_it (eqb kind 3) field) grown × (rank (onward_of (length us) with_it (eqb kind 3) field) < r)
      unfolding seen_of
      goes_on few e = go (eqb s.k (length us)) refl e
        where
          count : length grown ≡ s.asked + length x
          count = omega (arith, length-append asked x, a.count)

          deep : levels_of s ≡ s.levels + 1
          deep = rw t

          go : (b : Bool) → eqb s.k (length us) ≡ b → whole ≡ rest (if b then to_target with_it (eqb kind 3) field else to_table with_it (eqb kind 3) field) grown
              → Stands (if b then to_target with_it (eqb kind 3) field else to_table with_it (eqb kind 3) field) grown
              × (rank (if b then to_target with_it (eqb kind 3) field else to_table with_it (eqb kind 3) field) < r)
          go true h same = (
            record {
              same = same;
              count = count;
              some = λ f. absurd (clash f);
              k≤ = a.k≤;
              consumed≤ = a.consumed≤;
              levels≤ = omega (arith, deep, a.levels≤, (a.plain t).1);
              asked≤ = omega (arith, few, a.asked≤, (a.plain t).1);
            },
            omega (arith, (a.plain t).1),
          )
          go false h same =
              let left : rank (to_table with_it (eqb kind 3) field) ≡ suc (length (later s)) = rw (t, (a.plain t).0) in (
                record {
                  same = same;
                  count = count;
                  some = λ f. rw (a.plain t).0 (some_later (eqb-false s.k (length us) h));
                  k≤ = a.k≤;
                  consumed≤ = a.consumed≤;
                  levels≤ = omega (arith, deep, left, a.levels≤, (a.plain t).1);
                  asked≤ = omega (arith, few, left, a.asked≤, (a.plain t).1);
                },
                omega (arith, left, (a.plain t).1),
              )

    decides : onward s asked (Whole kind field wp sup x) ≡ decided with_it grown kind field
    decides = go s.target refl
      where
        go : (t : Bool) → s.target ≡ t → onward s asked (Whole kind field wp sup x) ≡ decided with_it grown kind field
        go true t = decides_target t
        go false t = decides_level t

  seen_asked : (n : ℕ) (s : Walking030) (d : Result Read Gone) → (seen_of n s d).asked ≡ s.asked + asked_of d
  unfolding seen_of
  seen_asked n s (Ok d) = refl
  seen_asked n s (Err lost) = refl

  seen_target : (n : ℕ) (s : Walking030) (d : Result Read Gone) → (seen_of n s d).target ≡ s.target
  unfolding seen_of
  seen_target n s (Ok d) = refl
  seen_target n s (Err lost) = refl

  -- ---- where it begins
  config : (ss : List Step) (b : Bool)
      → (if b then ended Config (start root.address) else walk_from m limit ss (root.address / 16 * 16) (eqb (root.limit % 4) 3) (start root.address))
      ≡ (if b || false then ended Config (start root.address) else walk_from m limit ss (root.address / 16 * 16) (eqb (root.limit % 4) 3) (start root.address))
  config ss true = refl
  config ss false = refl

  none : (b : Bool) (o : Outcome) → ended Config (start root.address) ≡ (if b || true then ended Config (start root.address) else o)
  none true o = refl
  none false o = refl

  begins : (b : Bool) (consumed : ℕ) (ws : List ℕ)
      → walk_steps m root limit (steps_with b code address consumed ws)
      ≡ (if no_walk (root.limit % 4) (length ws) b
      then ended Config (start root.address)
      else walk_from m limit (steps_with b code address consumed ws) (root.address / 16 * 16) (eqb (root.limit % 4) 3) (start root.address))
  begins true consumed ws = rw (and-false (eqb (length ws) 0)) (config (steps_with true code address consumed ws) (ltb (root.limit % 4) 2))
  begins false consumed [] = none (ltb (root.limit % 4) 2) _
  begins false consumed (w ∷ ws) = rw (ne_eqb (suc (length ws)) 0 (λ e. omega arith)) (config (steps_with false code address consumed (w ∷ ws)) (ltb (root.limit % 4) 2))

  some_level : (b : Bool) (consumed : ℕ) (ws : List ℕ) → no_walk (root.limit % 4) (length ws) b ≡ false → 0 < length (steps_with b code address consumed ws)
  some_level true consumed ws h = omega arith
  some_level false consumed [] h = absurd (clash (sym (or-true (ltb (root.limit % 4) 2)) ∙ h))
  some_level false consumed (w ∷ ws) h = omega arith

  few_levels : (b : Bool) (consumed : ℕ) → length (steps_with b code address consumed us) ≤ 5
  few_levels true consumed = omega (arith, steps_length address consumed us, widths_few tc)
  few_levels false consumed = omega (arith, steps_length address consumed us, widths_few tc)

  begun : no_walk (root.limit % 4) (length us) (bit_of tc 24) ≡ false → Stands (begun_of tc root (eqb (root.limit % 4) 3)) []
  begun h =
      let few = few_levels (bit_of tc 24) (is_of tc) in
      record {
        same = begins (bit_of tc 24) (is_of tc) us ∙ rw h;
        count = refl;
        some = λ t. some_level (bit_of tc 24) (is_of tc) us h;
        k≤ = omega arith;
        consumed≤ = omega arith;
        levels≤ = omega arith;
        asked≤ = omega arith;
      }

  -- the walk ends with what q holds
  ended_so : (q : Walking030) (l : List ℕ) (e : End) → whole ≡ ended e (found q l) → length l ≡ q.asked → {x : End} → x ≡ e → {w : Walked} → w ≡ answered q x → w ≡ shown whole
  ended_so q l e same count ex ew = ew ∙ rw (ex, ← count, same)

  module _ {ws : List ℕ} (ew : ws ≡ widths_of tc) {n : ℕ} (en : n ≡ length (used ws)) where
    n_is : n ≡ length us
    n_is = en ∙ ap (λ (l : List ℕ). length (used l)) ew

    -- ---- before the loop
    module _ {o : Option Walking030} (eo : o ≡ begin_of tc root n) where
      begin_lem : o ≡ (if no_walk (root.limit % 4) (length us) (bit_of tc 24) then None else Some (begun_of tc root (eqb (root.limit % 4) 3)))
      begin_lem = eo ∙ ap (begin_of tc root) n_is ∙ begin_is tc root (length us)

      pub begin : {s : Walking030} → o ≡ Some s → Standing s
      begin {s} h = go (no_walk (root.limit % 4) (length us) (bit_of tc 24)) refl (sym begin_lem ∙ h)
        where
          go : (b : Bool) → no_walk (root.limit % 4) (length us) (bit_of tc 24) ≡ b
              → (if b then None else Some (begun_of tc root (eqb (root.limit % 4) 3))) ≡ Some s → Standing s
          go true w e = absurd (none-some s e)
          go false w e = record { asked = []; stands = let same : begun_of tc root (eqb (root.limit % 4) 3) ≡ s = cc in subst (λ (s : Walking030). Stands s []) same (begun w) }

    -- ---- a turn
    module _ {s : Walking030} (t : Standing s) where
      -- what `aim` asks
      pub aim_asks : ((k : ℕ) → get_or ws k 0 < 16) × (s.consumed < 1000)
      aim_asks = (λ k. rw ew (width_small tc k), omega (arith, t.stands.consumed≤, t.stands.k≤, widths_few tc))

      module _ {b : Bool} (eb : b ≡ at_limit limit s) where
        -- the way out at the level stop
        pub ends_stop : b ≡ true → {w : Walked} → w ≡ answered s LevelStop → w ≡ shown whole
        ends_stop h ew = ended_so s t.asked LevelStop (stops s t.asked t.stands (sym eb ∙ h)) t.stands.count refl ew

        module _ (h : b ≡ false) {r : Walking030} (e : r ≡ aim_of ws address code s) {d : Result Read Gone} (read : d ≡ shown_read (read_of m r.last r.long)) where
          aims : Aims (rank s) r t.asked
          aims =
              subst (λ (x : Walking030). Aims (rank s) x t.asked) (sym (e ∙ rw ew))
              (aimed s t.asked t.stands (sym eb ∙ h))

          -- the descriptor that was read, and the longs asked for it
          abbrev it : Descriptor
          it = read_of m r.last r.long

          counts_it : asked_of d ≡ length (asked_for it)
          counts_it = ap asked_of read ∙ counted it

          few : length (asked_for it) ≤ 2
          few = read_few m r.last r.long

          -- what `seen` asks
          pub seen_asks : (r.levels < 1000) × (r.asked < 1000) × (asked_of d < 1000)
          seen_asks = (omega (arith, aims.levels≤), omega (arith, aims.asked≤), omega (arith, few, counts_it))

          module _ {q : Walking030} (eq : q ≡ seen_of n r d) where
            seen_is : q ≡ seen_of (length us) r d
            seen_is = eq ∙ ap (λ (n : ℕ). seen_of n r d) n_is

            -- the longs asked for, with those for the descriptor
            abbrev pub now : List ℕ
            now = t.asked ++ asked_for it

            counts : length now ≡ q.asked
            counts =
                omega (arith, length-append t.asked (asked_for it), counts_it, aims.count, ap (λ (s : Walking030). s.asked) seen_is, seen_asked (length us) r d)

            -- the way out at a bus error
            pub ends_lost : {l : Gone} → d ≡ Err l → {a : Walked} → a ≡ answered q (BusError l.at) → a ≡ shown whole
            ends_lost {l} el ea =
                let is_lost = lost_is it (sym read ∙ el) in
                ended_so q now (BusError l.at)
                (aims.same ∙ ap (onward r t.asked) is_lost ∙ lost r t.asked l.at (asked_for it)
                ∙ ap (λ (s : Walking030). ended (BusError l.at) (found s now)) (sym (seen_is ∙ ap (seen_of (length us) r) (read ∙ ap shown_read is_lost))))
                counts refl ea

            module _ {x : Read} (is_whole : d ≡ Ok x) where
              -- its type's number
              abbrev kind : ℕ
              kind = type_of it

              it_is : it ≡ Whole kind x.field x.wp x.sup (asked_for it)
              it_is = whole_is it (sym read ∙ is_whole)

              type_is : {k : Kind} → x.kind ≡ k → kind_of kind ≡ k
              type_is h = sym (kind_is it (sym read ∙ is_whole)) ∙ h

              holds : q ≡ seen_of (length us) r (shown_read (Whole kind x.field x.wp x.sup (asked_for it)))
              holds = seen_is ∙ ap (seen_of (length us) r) (read ∙ ap shown_read it_is)

              settles : whole ≡ decided q now kind x.field
              settles =
                  aims.same ∙ ap (onward r t.asked) it_is ∙ decides (rank s) r t.asked aims kind x.field (asked_for it) x.wp x.sup
                  ∙ ap (λ (s : Walking030). decided s now kind x.field) (sym holds)

              -- the way out at a page
              pub ends_page : x.kind ≡ given.Page → {a : Walked} → a ≡ answered q (Page x.field q.consumed) → a ≡ shown whole
              ends_page h ea = ended_so q now (Page x.field q.consumed) (settles ∙ rw (page_is kind (type_is h))) counts refl ea

              -- the ways out at an invalid descriptor, and at a target that is no page
              pub ends_invalid : x.kind ≡ given.Invalid → {a : Walked} → a ≡ answered q (Invalid q.target) → a ≡ shown whole
              ends_invalid h ea =
                  let k = invalid_is kind (type_is h) in
                  ended_so q now (Invalid q.target) (settles ∙ rw (k.0, k.1)) counts refl ea

              module _ {long : Bool} (is_table : x.kind ≡ given.Table long) where
                names : (eqb kind 1 ≡ false) × ((ltb kind 2 ≡ false) × (eqb kind 3 ≡ long))
                names = table_is kind (type_is is_table)

                pub ends_target : q.target ≡ true → {a : Walked} → a ≡ answered q (Invalid q.target) → a ≡ shown whole
                ends_target t ea = ended_so q now (Invalid q.target) (settles ∙ rw (names.0, names.1.0, t)) counts refl ea

                -- the walk goes on
                module _ (nt : q.target ≡ false) {r₂ : Walking030} (e₂ : r₂ ≡ onward_of n q long x.field) where
                  no_target : r.target ≡ false
                  no_target = sym (seen_target (length us) r d) ∙ ap (λ (s : Walking030). s.target) (sym seen_is) ∙ nt

                  plain : r₂ ≡ onward_of (length us) q (eqb kind 3) x.field
                  plain = e₂ ∙ ap (λ (n : ℕ). onward_of n q long x.field) n_is ∙ ap (λ (b : Bool). onward_of (length us) q b x.field) (sym names.1.1)

                  onward_is : r₂ ≡ onward_of (length us) (seen_of (length us) r (shown_read (Whole kind x.field x.wp x.sup (asked_for it)))) (eqb kind 3) x.field
                  onward_is = plain ∙ ap (λ (s : Walking030). onward_of (length us) s (eqb kind 3) x.field) holds

                  goes : whole ≡ rest r₂ now
                  goes =
                      let i : by_kind kind true false q.target ≡ false = rw (names.0, names.1.0) nt in
                      settles ∙ rw (i, names.0) (ap (λ (s : Walking030). rest s now) (sym plain))

                  turned : Stands r₂ now × (rank r₂ < rank s)
                  turned =
                      subst (λ (x : Walking030). Stands x now × (rank x < rank s)) (sym onward_is)
                      (goes_on (rank s) r t.asked aims kind x.field (asked_for it) x.wp x.sup no_target few (goes ∙ ap (λ (s : Walking030). rest s now) onward_is))

                  pub next : Standing r₂
                  next = record { asked = now; stands = turned.0 }

                  pub less : rank r₂ < rank s
                  less = turned.1

-- from the root of a code's space it is the definition's walk
pub from_root : (m : Memory) (g : Registers) (address code limit : ℕ) {tc : ℕ} → tc ≡ g.tc → {root : Root} → root ≡ root_of g code
    → {w : Walked} → w ≡ shown (outcome_of m tc root address code limit) → w ≡ shown (walk030 m g address code limit)
from_root m g address code limit et er ew = ew ∙ rw (et, er)
