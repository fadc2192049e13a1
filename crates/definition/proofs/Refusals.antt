-- Document 01's refusals, of the definitions: the order, refused exactly when the first of it applies, and what a refusal leaves. Assumes nothing.
use Prim.Native.Nat.{ℕ, ◌/◌, ◌^◌, ◌<◌}
use mathlib.Core.Path.{◌≡◌, refl, ap}
use mathlib.Core.List.{List, [], ◌∷◌, map}
use mathlib.Core.Bool.{Bool, true, false, not, ◌&&◌}
use mathlib.Core.Logic.{◌⊎◌, inl, inr, ⊎_elim}
use native.Mathlib.Omega.{arith}
use lib.Dec.{eqb, ltb}
use lib.ListN.{length}
use Rattle.std.specs.Prelude.{if◌then◌else◌, Option, Some, None}
use Rattle.definition.specs.Words.{bit_of}
use Rattle.definition.specs.Registers.{on, as_supervisor, as_instruction, walk_code, compared_code, code_of}
use Rattle.definition.specs.Memory.{Memory}
use Rattle.definition.specs.Transparent.{transparent, transparent030}
use Rattle.definition.specs.Walk030.{shift_of, walk030, every_level}
use Rattle.definition.specs.Walk040.{walk040, page_bits}
use Rattle.definition.specs.Cache030.{Cache030, hit_of, after_hit}
use Rattle.definition.specs.Cache040.{hit040}
use Rattle.definition.specs.Refusal.{Check, Checks, first_that, ordered, refusal_of, unless}
use Rattle.definition.specs.Translate.{Caches, Translated, Searched, hit_address, joined, at_once, on_end030, search030, on_hit030, with030, translate030, on_end040, on_hit040, translate040, in_order, translate_checks, translate}
use Rattle.definition.specs.Load.{Loaded, loaded, stopped, load_in_order, load_checks, load}
use Rattle.definition.specs.Test.{Tested, tested, test_in_order, test_checks, test}
use Rattle.definition.specs.Probe.{probed, probe030, probe_in_order, probe_checks, probe}
use Rattle.definition.specs.Flush.{Flushed, flushed, flush_unless, flush_all, flush_code, flush_page, flush_frame}
use Rattle.definition.specs.Audit.{first_stale030, first_stale040, audit_family, audit_checks, audit_from, finding_family, finding}
use Rattle.definition.specs.Calls.{Call, access, loading, testing, probing, flushing_all, flushing_code, flushing_page, flushing_frame, Line, A, F, L, T, K, N, R, translation_line, load_line, test_line, probe_line, flush_line, calling}
use Rattle.definition.specs.Trace.{Record, Loads, Calls, Stores, Adds, Malformed, State, memory_of, Played, played, keeping, step_of}
use Rattle.definition.proofs.Replay.{In}
use Rattle.definition.specs.declared.Registers.{Registers}
use Rattle.definition.specs.declared.Access.{Access}
use Rattle.definition.specs.declared.End.{End}
use Rattle.definition.specs.declared.End.TheVariants as end
use Rattle.definition.specs.declared.End040.{End040}
use Rattle.definition.specs.declared.End040.TheVariants as end040
use Rattle.definition.specs.declared.Translation.{Translation}
use Rattle.definition.specs.declared.Translation.TheVariants as translation
use Rattle.definition.specs.declared.Load.{Load}
use Rattle.definition.specs.declared.Load.TheVariants as load'
use Rattle.definition.specs.declared.Test.{Test}
use Rattle.definition.specs.declared.Test.TheVariants as test'
use Rattle.definition.specs.declared.Probe.{Probe}
use Rattle.definition.specs.declared.Probe.TheVariants as probe'
use Rattle.definition.specs.declared.Flush.{Flush}
use Rattle.definition.specs.declared.Flush.TheVariants as flush'
use Rattle.definition.specs.declared.Audit.{Audit}
use Rattle.definition.specs.declared.Audit.TheVariants as audit'
use Rattle.definition.specs.declared.Finding.{Finding}
use Rattle.definition.specs.declared.Finding.TheVariants as finding'
use Rattle.definition.proofs.Lists.{all_at}

-- ---- the order
pub in_order_lem : (k : Checks) → map (λ (c : Check). c.number) (ordered k) ≡ 1 ∷ 6 ∷ 5 ∷ 2 ∷ 3 ∷ 4 ∷ 8 ∷ []
in_order_lem k = refl

-- n is the number of the first check that applies
pub data First : List Check → ℕ → Type 0 where
  here : {k : Check} {ks : List Check} → k.applies ≡ true → First (k ∷ ks) k.number
  later : {k : Check} {ks : List Check} {n : ℕ} → k.applies ≡ false → First ks n → First (k ∷ ks) n

-- no check applies
pub data NoneApplies : List Check → Type 0 where
  none : NoneApplies []
  passed : {k : Check} {ks : List Check} → k.applies ≡ false → NoneApplies ks → NoneApplies (k ∷ ks)

first_or_none : (ks : List Check) → First ks (first_that ks) ⊎ (NoneApplies ks × (first_that ks ≡ 0))
first_or_none [] = inr (none, refl)
first_or_none (k ∷ ks) = go k.applies refl (first_or_none ks)
  where
    go : (b : Bool) → k.applies ≡ b → First ks (first_that ks) ⊎ (NoneApplies ks × (first_that ks ≡ 0))
        → First (k ∷ ks) (if b then k.number else first_that ks) ⊎ (NoneApplies (k ∷ ks) × ((if b then k.number else first_that ks) ≡ 0))
    go true e rest = inl (here e)
    go false e rest = ⊎_elim (λ f. inl (later e f)) (λ n. inr (passed e n.0, n.1)) rest

first_is : (ks : List Check) (n : ℕ) → First ks n → first_that ks ≡ n
first_is [] n x' = elim x' [ ]
first_is (k ∷ ks) _ (here e) = rw e
first_is (k ∷ ks) n (later e f) = rw e (first_is ks n f)

none_is : (ks : List Check) → NoneApplies ks → first_that ks ≡ 0
none_is [] none = refl
none_is (k ∷ ks) (passed e f) = rw e (none_is ks f)

first_in : (ks : List Check) (n : ℕ) → First ks n → In n (map (λ (c : Check). c.number) ks)
first_in [] n x' = elim x' [ ]
first_in (k ∷ ks) _ (here e) = inl refl
first_in (k ∷ ks) n (later e f) = inr (first_in ks n f)

-- the number given is the first's that applies, or none applies and none is given
pub given : (k : Checks) → First (ordered k) (refusal_of k) ⊎ (NoneApplies (ordered k) × (refusal_of k ≡ 0))
unfolding refusal_of
given k = first_or_none (ordered k)

-- the first that applies is given
pub first_given : (k : Checks) (n : ℕ) → First (ordered k) n → refusal_of k ≡ n
unfolding refusal_of
first_given k n f = first_is (ordered k) n f

pub none_given : (k : Checks) → NoneApplies (ordered k) → refusal_of k ≡ 0
unfolding refusal_of
none_given k f = none_is (ordered k) f

-- no number is given, so none applies
pub none_applies : (k : Checks) → refusal_of k ≡ 0 → NoneApplies (ordered k)
none_applies k e =
    ⊎_elim
    (λ f.
    absurd (omega (
      arith,
      e,
      all_at (λ (n : ℕ). 0 < n) (1 ∷ 6 ∷ 5 ∷ 2 ∷ 3 ∷ 4 ∷ 8 ∷ []) (refusal_of k) (first_in (ordered k) (refusal_of k) f)
          (omega arith, (omega arith, (omega arith, (omega arith, (omega arith, (omega arith, (omega arith, tt))))))),
    ))) (λ n. n.0) (given k)

-- as check 4 doesn't
pub none_four : (k : Checks) → refusal_of k ≡ 0 → k.four ≡ false
none_four k e = go (none_applies k e)
  where
    go : NoneApplies (ordered k) → k.four ≡ false
    go (passed one (passed six (passed five (passed two (passed three (passed four rest)))))) = four

-- no number is given but these: 7 is the program's own, for a malformed trace
pub one_to_eight : (k : Checks) → In (refusal_of k) (1 ∷ 6 ∷ 5 ∷ 2 ∷ 3 ∷ 4 ∷ 8 ∷ []) ⊎ (refusal_of k ≡ 0)
one_to_eight k = ⊎_elim (λ f. inl (first_in (ordered k) (refusal_of k) f)) (λ n. inr n.1) (given k)

-- ---- one call
-- a refusal's number as an answer has it: none, or one
abbrev pub numbers : ℕ → List ℕ
numbers n = if eqb n 0 then [] else n ∷ []

module _ {X : Type 0} (number_in : X → List ℕ) (k : Checks) (refused : ℕ → X) (answer : X)
    (says : (n : ℕ) → number_in (refused n) ≡ n ∷ []) (never : number_in answer ≡ []) where
  -- refused exactly with the number of the first check that applies
  exactly : number_in (unless k refused answer) ≡ numbers (refusal_of k)
  exactly = go (eqb (refusal_of k) 0)
    where
      go : (b : Bool) → number_in (if b then answer else refused (refusal_of k)) ≡ (if b then [] else refusal_of k ∷ [])
      go true = never
      go false = says (refusal_of k)

  -- and then it is that refusal, whole
  whole : (n : ℕ) → number_in (unless k refused answer) ≡ n ∷ [] → unless k refused answer ≡ refused n
  whole n h = go (eqb (refusal_of k) 0) h
    where
      apart : (l : List ℕ) → l ≡ [] → l ≡ n ∷ [] → ⊥
      apart l e f = let z : ◌≡◌ {A = ℕ} 0 1 = cc in omega arith

      same : (l : List ℕ) → l ≡ refusal_of k ∷ [] → l ≡ n ∷ [] → refusal_of k ≡ n
      same l e f = cc

      go : (b : Bool) → number_in (if b then answer else refused (refusal_of k)) ≡ n ∷ [] → (if b then answer else refused (refusal_of k)) ≡ refused n
      go true e = absurd (apart (number_in answer) never e)
      go false e = ap refused (same (number_in (refused (refusal_of k))) (says (refusal_of k)) e)

-- where both give no number, a choice gives none
neither : {X : Type 0} (number_in : X → List ℕ) (b : Bool) (x y : X) → number_in x ≡ [] → number_in y ≡ [] → number_in (if b then x else y) ≡ []
neither number_in true x y h k = h
neither number_in false x y h k = k

-- ---- translate
abbrev pub in_translation : Translation → List ℕ
in_translation (translation.Address address) = []
in_translation (translation.Fault kind cause address) = []
in_translation (translation.Refused n) = n ∷ []

abbrev in_translated : Translated → List ℕ
in_translated t = in_translation t.answer

abbrev in_searched : Searched → List ℕ
in_searched s = in_translation s.answer

module _ (g : Registers) (m : Memory) where
  end030_never : (c : Cache030) (code address : ℕ) (write wp sup : Bool) (asked : List ℕ) (e : End) → in_searched (on_end030 g.tc c code address write wp sup asked e) ≡ []
  end030_never c code address write wp sup asked (end.Page field consumed) =
      neither in_searched (sup && not (bit_of code 2)) _ _ refl (neither in_translation (write && wp) _ _ refl refl)
  end030_never c code address write wp sup asked (end.Invalid indirect) = refl
  end030_never c code address write wp sup asked (end.BusError at) = refl
  end030_never c code address write wp sup asked end.LevelStop = refl
  end030_never c code address write wp sup asked end.Config = refl

  search_never : (c : Cache030) (code address : ℕ) (write : Bool) → in_searched (search030 g m c code address write) ≡ []
  unfolding search030
  search_never c code address write =
      let o = walk030 m g address code every_level in
      end030_never c code address write o.found.wp o.found.sup o.found.asked o.end

  hit030_never : (c : Cache030) (code address : ℕ) (write : Bool) (shift : ℕ) (h : Option ℕ) → in_searched (on_hit030 g m c code address write shift h) ≡ []
  hit030_never c code address write shift (Some base) = refl
  hit030_never c code address write shift None = search_never c code address write

  with030_never : (c : Cache030) (recorded : Bool) (code address : ℕ) (write : Bool) (s : Option ℕ) → in_searched (with030 g m c recorded code address write s) ≡ []
  with030_never c recorded code address write None = search_never c code address write
  with030_never c recorded code address write (Some shift) =
      hit030_never (after_hit c recorded code (address / 2 ^ shift) shift) code address write shift
      (hit_of c code (address / 2 ^ shift) shift write)

  module _ (a : Access) (c : Caches) where
    translate030_never : in_translated (translate030 g a m c) ≡ []
    unfolding translate030
    translate030_never = with030_never c.c030 a.recorded (walk_code a) a.address a.write (shift_of g.tc)

    end040_never : (asked : List ℕ) (e : End040) → in_translated (on_end040 g a c asked e) ≡ []
    end040_never asked (end040.Resident field wp sup) =
        neither in_translated (a.write && wp) _ _ refl (neither in_translated (not (as_supervisor a) && sup) _ _ refl refl)
    end040_never asked (end040.Absent missing) = refl
    end040_never asked (end040.Lost at) = refl

    hit040_never : (h : Option ℕ) → in_translated (on_hit040 g a m c h) ≡ []
    hit040_never (Some base) = refl
    hit040_never None = let o = walk040 m g a.address (as_supervisor a) in end040_never o.asked o.end

    translate040_never : in_translated (translate040 g a m c) ≡ []
    unfolding translate040
    translate040_never = hit040_never (hit040 c.c040 (a.address / 2 ^ page_bits g.tc) (as_supervisor a) a.write)

    in_order_never : in_translated (in_order g a m c) ≡ []
    unfolding in_order
    in_order_never =
        neither in_translated (not (on g)) _ _ refl
        (neither in_translated (transparent g a.address (compared_code a) (as_instruction a) a.write) _ _ refl
        (neither in_translated (eqb g.family 30) _ _ translate030_never translate040_never))

    pub translate_refuses : in_translation (translate g a m c).answer ≡ numbers (refusal_of (translate_checks g a m c))
    unfolding translate
    translate_refuses = exactly in_translated (translate_checks g a m c) (λ n. at_once (Translation.Refused n) c) (in_order g a m c) (λ n. refl) in_order_never

    -- a refusal fetches nothing and leaves the caches
    pub translate_leaves : (n : ℕ) → (translate g a m c).answer ≡ Translation.Refused n → translate g a m c ≡ at_once (Translation.Refused n) c
    unfolding translate
    translate_leaves n e =
        whole in_translated (translate_checks g a m c) (λ n. at_once (Translation.Refused n) c) (in_order g a m c) (λ n. refl) in_order_never n
        (ap in_translation e)

-- ---- load
abbrev pub in_load : Load → List ℕ
in_load load'.Loaded = []
in_load (load'.Refused n) = n ∷ []

abbrev in_loaded : Loaded → List ℕ
in_loaded l = in_load l.answer

module _ (g : Registers) (code : ℕ) (write : Bool) (address : ℕ) (m : Memory) (c : Caches) where
  load_never : in_loaded (load_in_order g code write address m c) ≡ []
  unfolding load_in_order
  load_never =
      neither in_loaded (not (on g)) _ _ refl
      (neither in_loaded (stopped (shift_of g.tc) (transparent030 g address code write)) _ _ refl refl)

  pub load_refuses : in_load (load g code write address m c).answer ≡ numbers (refusal_of (load_checks g code m c))
  unfolding load
  load_refuses = exactly in_loaded (load_checks g code m c) (λ n. loaded (Load.Refused n) [] c.c030 c) (load_in_order g code write address m c) (λ n. refl) load_never

  pub load_leaves : (n : ℕ) → (load g code write address m c).answer ≡ Load.Refused n → load g code write address m c ≡ loaded (Load.Refused n) [] c.c030 c
  unfolding load
  load_leaves n e =
      whole in_loaded (load_checks g code m c) (λ n. loaded (Load.Refused n) [] c.c030 c) (load_in_order g code write address m c) (λ n. refl) load_never n
      (ap in_load e)

-- ---- test
abbrev pub in_test : Test → List ℕ
in_test (test'.Status mmusr address) = []
in_test (test'.Refused n) = n ∷ []

abbrev in_tested : Tested → List ℕ
in_tested t = in_test t.answer

module _ (g : Registers) (code : ℕ) (write : Bool) (level address : ℕ) (m : Memory) where
  test_never : in_tested (test_in_order g code write level address m) ≡ []
  unfolding test_in_order
  test_never = neither in_tested (eqb level 0) _ _ refl refl

  pub test_refuses : in_test (test g code write level address m).answer ≡ numbers (refusal_of (test_checks g code level m))
  unfolding test
  test_refuses = exactly in_tested (test_checks g code level m) (λ n. tested (Test.Refused n) []) (test_in_order g code write level address m) (λ n. refl) test_never

  pub test_leaves : (n : ℕ) → (test g code write level address m).answer ≡ Test.Refused n → test g code write level address m ≡ tested (Test.Refused n) []
  unfolding test
  test_leaves n e =
      whole in_tested (test_checks g code level m) (λ n. tested (Test.Refused n) []) (test_in_order g code write level address m) (λ n. refl) test_never n
      (ap in_test e)

-- ---- probe
abbrev pub in_probe : Probe → List ℕ
in_probe (probe'.Address address) = []
in_probe probe'.Nothing = []
in_probe (probe'.Refused n) = n ∷ []

probed_never : (f : ℕ → ℕ) (h : Option ℕ) → in_probe (probed f h) ≡ []
probed_never f (Some base) = refl
probed_never f None = refl

probe030_never : (c : Cache030) (code : ℕ) (write : Bool) (address : ℕ) (s : Option ℕ) → in_probe (probe030 c code write address s) ≡ []
probe030_never c code write address None = refl
probe030_never c code write address (Some shift) =
    probed_never (λ (base : ℕ). hit_address base address shift) (hit_of c code (address / 2 ^ shift) shift write)

module _ (g : Registers) (own instruction write : Bool) (address : ℕ) (c : Caches) where
  probe_never : in_probe (probe_in_order g own instruction write address c) ≡ []
  unfolding probe_in_order
  probe_never =
      neither in_probe (not (on g)) _ _ refl
      (neither in_probe (transparent g address (code_of own instruction) instruction write) _ _ refl
      (neither in_probe (eqb g.family 30) _ _
      (probe030_never c.c030 (code_of own instruction) write address (shift_of g.tc))
      (probed_never (λ (base : ℕ). joined g.tc base address) (hit040 c.c040 (address / 2 ^ page_bits g.tc) own write))))

  pub probe_refuses : in_probe (probe g own instruction write address c) ≡ numbers (refusal_of (probe_checks g c))
  unfolding probe
  probe_refuses = exactly in_probe (probe_checks g c) (λ n. Probe.Refused n) (probe_in_order g own instruction write address c) (λ n. refl) probe_never

-- ---- the audit, and what is said of one entry
abbrev pub in_audit : Audit → List ℕ
in_audit audit'.Clean = []
in_audit (audit'.Stale030 i) = []
in_audit (audit'.Stale040 i) = []
in_audit (audit'.Refused n) = n ∷ []

abbrev pub in_finding : Finding → List ℕ
in_finding (finding'.Says address code cached tables) = []
in_finding (finding'.Refused n) = n ∷ []

module _ (g : Registers) (m : Memory) (c : Caches) (i : ℕ) where
  audit_never : in_audit (audit_family g m c i) ≡ []
  unfolding audit_family
  audit_never =
      neither in_audit (eqb g.family 30) _ _ (neither in_audit (ltb (first_stale030 g m c.c030 i (shift_of g.tc)) (length c.c030.entries)) _ _ refl refl)
      (neither in_audit (ltb (first_stale040 g m c.c040 i) (length c.c040.slots)) _ _ refl refl)

  pub audit_refuses : in_audit (audit_from g m c i) ≡ numbers (refusal_of (audit_checks g m c))
  unfolding audit_from
  audit_refuses = exactly in_audit (audit_checks g m c) (λ n. Audit.Refused n) (audit_family g m c i) (λ n. refl) audit_never

  pub finding_refuses : (write : Bool) → in_finding (finding g m c i write) ≡ numbers (refusal_of (audit_checks g m c))
  unfolding finding
  finding_refuses write =
      exactly in_finding (audit_checks g m c) (λ n. Finding.Refused n) (finding_family g m c i write) (λ n. refl)
      (neither in_finding (eqb g.family 30) _ _ refl refl)

-- ---- the flushes, each of which is a `flush_unless` of what it does
abbrev pub in_flush : Flush → List ℕ
in_flush flush'.Flushed = []
in_flush (flush'.Refused n) = n ∷ []

abbrev in_flushed : Flushed → List ℕ
in_flushed f = in_flush f.answer

module _ (k : Checks) (c : Caches) (done : Flushed) (is : done.answer ≡ Flush.Flushed) where
  pub flush_refuses : in_flush (flush_unless k c done).answer ≡ numbers (refusal_of k)
  flush_refuses = exactly in_flushed k (λ n. flushed (Flush.Refused n) c.c030 c.c040) done (λ n. refl) (ap in_flush is)

  pub flush_leaves : (n : ℕ) → (flush_unless k c done).answer ≡ Flush.Refused n → flush_unless k c done ≡ flushed (Flush.Refused n) c.c030 c.c040
  flush_leaves n e = whole in_flushed k (λ n. flushed (Flush.Refused n) c.c030 c.c040) done (λ n. refl) (ap in_flush is) n (ap in_flush e)

-- ---- a record of the trace
abbrev pub in_line : Line → List ℕ
in_line (A address count) = []
in_line (F kind cause address count) = []
in_line (L count) = []
in_line (T mmusr address count) = []
in_line K = []
in_line N = []
in_line (R n) = n ∷ []

abbrev in_played : Played → List ℕ
in_played p = in_line p.line

-- the program's own records
module _ (k : Checks) (s next : State) where
  pub record_refuses : in_line (keeping k s next).line ≡ numbers (refusal_of k)
  record_refuses = exactly in_played k (λ n. played (R n) s) (played K next) (λ n. refl) refl

  record_leaves : (n : ℕ) → (keeping k s next).line ≡ R n → (keeping k s next).state ≡ s
  record_leaves n e = ap (λ (p : Played). p.state) (whole in_played k (λ n. played (R n) s) (played K next) (λ n. refl) refl n (ap in_line e))

-- the other lines are no refusals
other_line : {X : Type 0} (n : ℕ) (l : Line) → in_line l ≡ [] → l ≡ R n → X
other_line n l e f = let z : ◌≡◌ {A = ℕ} 0 1 = cc in absurd (omega arith)

-- a line that says R n is a refused answer's
module _ (n count : ℕ) where
  pub translation_refused : (t : Translation) → translation_line count t ≡ R n → t ≡ Translation.Refused n
  translation_refused (translation.Address address) e = other_line n _ refl e
  translation_refused (translation.Fault kind cause address) e = other_line n _ refl e
  translation_refused (translation.Refused k) e = cc

  pub load_refused : (l : Load) → load_line count l ≡ R n → l ≡ Load.Refused n
  load_refused load'.Loaded e = other_line n _ refl e
  load_refused (load'.Refused k) e = cc

  pub test_refused : (t : Test) → test_line count t ≡ R n → t ≡ Test.Refused n
  test_refused (test'.Status mmusr address) e = other_line n _ refl e
  test_refused (test'.Refused k) e = cc

pub probe_refused : (n : ℕ) (p : Probe) → probe_line p ≡ R n → p ≡ Probe.Refused n
probe_refused n (probe'.Address address) e = other_line n _ refl e
probe_refused n probe'.Nothing e = other_line n _ refl e
probe_refused n (probe'.Refused k) e = cc

pub flush_refused : (n : ℕ) (f : Flush) → flush_line f ≡ R n → f ≡ Flush.Refused n
flush_refused n flush'.Flushed e = other_line n _ refl e
flush_refused n (flush'.Refused k) e = cc

flushed_leaves : (n : ℕ) (k : Checks) (c : Caches) (done : Flushed) → done.answer ≡ Flush.Flushed → flush_line (flush_unless k c done).answer ≡ R n
    → (flush_unless k c done).caches ≡ c
flushed_leaves n k c done is e = ap (λ (f : Flushed). f.caches) (flush_leaves k c done is n (flush_refused n _ e))

call_leaves : (g : Registers) (m : Memory) (c : Caches) (n : ℕ) (call : Call) → (calling g m c call).line ≡ R n → (calling g m c call).caches ≡ c
unfolding calling flush_all flush_code flush_page flush_frame
call_leaves g m c n (access a) e = ap (λ (t : Translated). t.caches) (translate_leaves g m a c n (translation_refused n _ _ e))
call_leaves g m c n (loading code write address) e =
    ap (λ (l : Loaded). l.caches) (load_leaves g code write address m c n (load_refused n _ _ e))
call_leaves g m c n (testing code write level address) e = refl
call_leaves g m c n (probing own instruction write address) e = refl
call_leaves g m c n flushing_all e = flushed_leaves n _ c _ refl e
call_leaves g m c n (flushing_code code mask) e = flushed_leaves n _ c _ refl e
call_leaves g m c n (flushing_page code mask address) e = flushed_leaves n _ c _ refl e
call_leaves g m c n (flushing_frame frame) e = flushed_leaves n _ c _ refl e

-- 'A refusal prints R and its number, stores nothing and goes on': of every record
pub step_leaves : (s : State) (r : Record) (n : ℕ) → (step_of s r).line ≡ R n → (step_of s r).state ≡ s
unfolding step_of
step_leaves s (Loads g) n e = record_leaves _ s _ n e
step_leaves s (Calls call) n e =
    ap (λ (c : Caches). record { registers = s.registers; longs = s.longs; ranges = s.ranges; caches = c })
    (call_leaves s.registers (memory_of s) s.caches n call e)
step_leaves s (Stores address value) n e = record_leaves _ s _ n e
step_leaves s (Adds range) n e = record_leaves _ s _ n e
step_leaves s Malformed n e = refl
