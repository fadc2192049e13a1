-- From what a call promises in place to what the host is told. Assumes nothing.
use Prim.Native.Nat.{ℕ}
use mathlib.Core.Path.{◌≡◌, ap, ◌∙◌}
use mathlib.Core.List.{List}
use mathlib.Core.Bool.{Bool}
use Rattle.definition.specs.Words.{bit_of}
use Rattle.definition.specs.Memory.{Memory}
use Rattle.definition.specs.Load.{load}
use Rattle.definition.specs.Test.{test}
use Rattle.definition.specs.declared.Access.{Access}
use Rattle.definition.specs.Translate.{Caches, translate}
use Rattle.definition.specs.Probe.{probe}
use Rattle.definition.specs.declared.Registers.{Registers}
use Rattle.definition.specs.declared.Probe.{Probe}
use Rattle.definition.specs.Cache030.{Cache030}
use Rattle.definition.specs.Cache040.{Cache040}
use Rattle.definition.specs.Flush.{Flushed}
use Rattle.definition.specs.Refusal.{bad_range}
use Rattle.definition.specs.declared.Translation.{Translation}
use Rattle.definition.specs.declared.Load.{Load}
use Rattle.definition.specs.declared.Test.{Test}
use Rattle.definition.specs.declared.Flush.{Flush}
use Rattle.cache.specs.Pair.{caches_of, pair_with}
use Rattle.translate.specs.InPlace.{AnsweredIn}
use Rattle.load.specs.Loaded.{load_given, LoadedIn, shown_loaded}
use Rattle.test.specs.Tested.{test_given, TestedIn, shown_tested}
use Rattle.flush.specs.Flushed.{FlushedIn, FlushedIn030, FlushedIn040}
use Rattle.translate.specs.Stages.{translate_given, shown_translated}
use Rattle.translate.proofs.Staged.{given_true}
use Rattle.load.proofs.Loading as loading
use Rattle.test.proofs.Testing as testing
use Rattle.cache.specs.Atc030.{cache_of}
use Rattle.cache.specs.Atc040.{cache040_of}
use Rattle.numbers.specs.Numbers.{TranslatedTo, LoadedTo, tested_numbers, registers_of, access_of, probe_numbers, translation_numbers, load_numbers, test_numbers, flush_number, FlushedTo}

-- ---- a flush of one cache
pub flushed_030 : {f : Flushed} {k : Cache040} {answer : Flush} {c030 : List ℕ} {n : ℕ} → FlushedIn030 f k answer c030 → n ≡ flush_number answer
    → FlushedTo f n (pair_with (cache_of c030) k)
flushed_030 q e = record { answers = e ∙ ap flush_number q.answers; leaves = q.leaves }

pub flushed_040 : {f : Flushed} {c : Cache030} {answer : Flush} {c040 : List ℕ} {n : ℕ} → FlushedIn040 f c answer c040 → n ≡ flush_number answer
    → FlushedTo f n (pair_with c (cache040_of c040))
flushed_040 q e = record { answers = e ∙ ap flush_number q.answers; leaves = q.leaves }

-- ---- a flush of both
pub flushed_both : {f : Flushed} {answer : Flush} {c030 c040 : List ℕ} {n : ℕ} → FlushedIn f answer c030 c040 → n ≡ flush_number answer
    → FlushedTo f n (caches_of c030 c040)
flushed_both q e = record { answers = e ∙ ap flush_number q.answers; leaves = q.leaves }

-- ---- a probe
pub probed : (ns : List ℕ) (flags address : ℕ) (c : Caches) {out : List ℕ} {p : Probe} {g : Registers} {o i w : Bool} → out ≡ probe_numbers p → p ≡ probe g o i w address c
    → g ≡ registers_of ns → o ≡ bit_of flags 3 → i ≡ bit_of flags 2 → w ≡ bit_of flags 0
    → out ≡ probe_numbers (probe (registers_of ns) (bit_of flags 3) (bit_of flags 2) (bit_of flags 0) address c)
probed ns flags address c t p g o i w = rw (← g, ← o, ← i, ← w, ← p) t

-- ---- the calls over the ranges: the answer's numbers, from the call's promise in place
module _ (ns : List ℕ) {g : Registers} (is-g : g ≡ registers_of ns) (m : Memory) {out : List ℕ} where
  pub translates : (flags code address : ℕ) (c : Caches) {a : Access} {crossed : Bool} {t : Translation} {count : ℕ} {c030 c040 : List ℕ} → a ≡ access_of flags code address
      → crossed ≡ bad_range m → AnsweredIn (shown_translated (translate_given crossed g a m c)) t count c030 c040 → out ≡ translation_numbers t count
      → TranslatedTo (translate (registers_of ns) (access_of flags code address) m c) out (caches_of c030 c040)
  translates flags code address c {a} {t = t} {count} {c030} {c040} is-a is-crossed k e =
      let q : AnsweredIn (shown_translated (translate g a m c)) t count c030 c040 = rw (← given_true g a m c is-crossed) k in
      rw (← is-g, ← is-a) (record { answers = e ∙ rw (q.answers, q.counts); leaves = q.leaves })

  pub loads : (code : ℕ) (write : Bool) (address : ℕ) (c : Cache030) {crossed : Bool} {l : Load} {count : ℕ} {c030 : List ℕ} → crossed ≡ bad_range m
      → ((k : Cache040) → LoadedIn (shown_loaded (load_given crossed g code write address m (pair_with c k))) l count c030) → out ≡ load_numbers l count
      → (k : Cache040) → LoadedTo (load (registers_of ns) code write address m (pair_with c k)) out (cache_of c030)
  loads code write address c {l = l} {count} {c030} is-crossed f e k =
      let q : LoadedIn (shown_loaded (load g code write address m (pair_with c k))) l count c030 = rw (← loading.given_true g code write address m (pair_with c k) is-crossed) (f k) in
      rw (← is-g) (record { answers = e ∙ rw (q.answers, q.counts); leaves = q.leaves })

  pub tests : (code : ℕ) (write : Bool) (level address : ℕ) {crossed : Bool} {t : Test} {count : ℕ} → crossed ≡ bad_range m
      → TestedIn (shown_tested (test_given crossed g code write level address m)) t count → out ≡ test_numbers t count
      → out ≡ tested_numbers (test (registers_of ns) code write level address m)
  tests code write level address {t = t} {count} is-crossed k e =
      let q : TestedIn (shown_tested (test g code write level address m)) t count = rw (← testing.given_true g code write level address m is-crossed) k in
      rw (← is-g) (e ∙ rw (q.answers, q.counts))
