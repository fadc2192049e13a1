-- From a call in place to the call by value. Assumes nothing.
use Prim.Native.Nat.{ℕ}
use mathlib.Core.Path.{◌≡◌, sym, ◌∙◌}
use mathlib.Core.List.{List}
use mathlib.Core.Bool.{Bool}
use lib.ListN.{length}
use Rattle.definition.specs.Memory.{Memory}
use Rattle.definition.specs.Refusal.{bad_range}
use Rattle.definition.specs.Cache040.{Cache040}
use Rattle.definition.specs.Translate.{translate}
use Rattle.definition.specs.Load.{load}
use Rattle.definition.specs.Test.{test}
use Rattle.definition.specs.declared.Registers.{Registers}
use Rattle.definition.specs.declared.Access.{Access}
use Rattle.definition.specs.declared.Load.{Load}
use Rattle.definition.specs.declared.Test.{Test}
use Rattle.definition.specs.declared.Translation.{Translation}
use Rattle.cache.specs.Atc030.{cache_of}
use Rattle.cache.specs.Atc040.{cache040_of}
use Rattle.cache.specs.Pair.{pair_with, caches_of, pair_of}
use Rattle.cache.specs.declared.CachePair.{CachePair}
use Rattle.checks.proofs.Pairs.{beside}
use Rattle.translate.specs.Stages.{translate_given, shown_translated}
use Rattle.translate.specs.InPlace.{AnsweredIn}
use Rattle.translate.proofs.Staged.{given_true}
use Rattle.load.specs.Loaded.{load_given, shown_loaded, LoadedIn}
use Rattle.load.proofs.Loading as loading
use Rattle.test.specs.Tested.{test_given, shown_tested, TestedIn}
use Rattle.test.proofs.Testing as testing
use Rattle.mmu.specs.ByValue.{TranslatedBy, LoadedBy}
use Rattle.mmu.specs.declared.by_value.Translated.{Translated}
use Rattle.mmu.specs.declared.by_value.Loaded.{Loaded}

-- ---- translate
pub translates : (g : Registers) (a : Access) (m : Memory) (caches : CachePair) {crossed : Bool} → crossed ≡ bad_range m
    → {c030 c040 : List ℕ} → c030 ≡ caches.c030 → (c040 ≡ caches.c040) × (length c040 ≡ 128) → {t : Translation} {n : ℕ} {c030' c040' : List ℕ}
    → AnsweredIn (shown_translated (translate_given crossed g a m (caches_of c030 c040))) t n c030' c040'
    → {r : Translated} → (r.answer ≡ t) × (r.count ≡ n) × (r.caches.c030 ≡ c030') × (r.caches.c040 ≡ c040')
    → TranslatedBy (translate g a m (pair_of caches)) r
translates g a m caches {crossed} is-crossed {c030} {c040} e f {t} {n} {c030'} {c040'} k {r} q =
    let true-word : translate_given crossed g a m (caches_of c030 c040) ≡ translate g a m (pair_of caches) = given_true g a m (caches_of c030 c040) is-crossed ∙ rw (e, f.0) in
    let s : AnsweredIn (shown_translated (translate g a m (pair_of caches))) t n c030' c040' = rw (← true-word) k in
    record {
      answers = q.0 ∙ s.answers;
      counts = q.1 ∙ s.counts;
      leaves = rw (q.2, q.3) s.leaves;
      whole = rw (q.2, q.3) s.whole;
    }

-- ---- load
pub loads : (g : Registers) (code : ℕ) (write : Bool) (address : ℕ) (m : Memory) (caches : CachePair) {crossed : Bool} → crossed ≡ bad_range m
    → {c030 c040 : List ℕ} → c030 ≡ caches.c030 → (c040 ≡ caches.c040) × (length c040 ≡ 128) → {l : Load} {n : ℕ} {c030' : List ℕ}
    → ((k : Cache040) → LoadedIn (shown_loaded (load_given crossed g code write address m (pair_with (cache_of c030) k))) l n c030')
    → {r : Loaded} → (r.answer ≡ l) × (r.count ≡ n) × (r.caches.c030 ≡ c030') × (r.caches.c040 ≡ c040)
    → LoadedBy (load g code write address m (pair_of caches)) r
loads g code write address m caches {crossed} is-crossed {c030} {c040} e f {l} {n} {c030'} k {r} q =
    let true-word : load_given crossed g code write address m (caches_of c030 c040) ≡ load g code write address m (pair_of caches) = loading.given_true g code write address m (caches_of c030 c040) is-crossed ∙ rw (e, f.0) in
    let s : LoadedIn (shown_loaded (load g code write address m (pair_of caches))) l n c030' = rw (← true-word) (k (cache040_of c040)) in
    let stays : cache040_of c040 ≡ (load g code write address m (pair_of caches)).caches.c040 = rw f.0 (sym (loading.load_beside g code write address m (pair_of caches))) in
    record {
      answers = q.0 ∙ s.answers;
      counts = q.1 ∙ s.counts;
      leaves = rw (q.2, q.3) (beside (load g code write address m (pair_of caches)).caches s.leaves stays);
      whole = rw (q.2, q.3) (record { sized = s.sized; sized040 = f.1 });
    }

-- ---- test
pub tests : (g : Registers) (code : ℕ) (write : Bool) (level address : ℕ) (m : Memory) {crossed : Bool} → crossed ≡ bad_range m → {t : Test} {n : ℕ}
    → TestedIn (shown_tested (test_given crossed g code write level address m)) t n → TestedIn (shown_tested (test g code write level address m)) t n
tests g code write level address m is-crossed k = rw (← testing.given_true g code write level address m is-crossed) k
