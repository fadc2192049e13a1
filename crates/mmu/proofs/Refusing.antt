-- 'A refusal returns its number alone and leaves everything', of each call by value: a result that its promise allows is refused exactly
-- with the number of the first check that applies, and then its count is 0 and its pair the one passed. Assumes nothing.
use Prim.Native.Nat.{ℕ}
use mathlib.Core.Path.{◌≡◌, refl, sym, ap, ◌∙◌}
use lib.ListN.{length}
use mathlib.Core.Bool.{Bool, false, ◌||◌}
use Rattle.definition.specs.Memory.{Memory}
use Rattle.definition.specs.Refusal.{Checks, above_seven, bad_cache, bad_frame, refusal_of}
use Rattle.definition.specs.Translate.{Translated as TranslatedOf, translate_checks, translate}
use Rattle.definition.specs.Load.{Loaded as LoadedOf, load_checks, load}
use Rattle.definition.specs.Test.{Tested as TestedOf, test_checks, test}
use Rattle.definition.specs.Probe.{probe_checks, probe}
use Rattle.definition.specs.Flush.{Flushed as FlushedOf, flush_checks, flush_unless, flush_all, flush_code, flush_page, flush_frame}
use Rattle.definition.specs.declared.Registers.{Registers}
use Rattle.definition.specs.declared.Access.{Access}
use Rattle.definition.specs.declared.Translation.{Translation}
use Rattle.definition.specs.declared.Load.{Load}
use Rattle.definition.specs.declared.Test.{Test}
use Rattle.definition.specs.declared.Probe.{Probe}
use Rattle.definition.specs.declared.Flush.{Flush}
use Rattle.definition.proofs.Refusals.{numbers, in_translation, translate_refuses, translate_leaves, in_load, load_refuses, load_leaves, in_test, test_refuses, test_leaves, in_probe, probe_refuses, in_flush, flush_refuses, flush_leaves}
use Rattle.cache.specs.Pair.{pair_of, SizedPair}
use Rattle.cache.specs.declared.CachePair.{CachePair}
use Rattle.cache.proofs.Pairs.{pair_same}
use Rattle.test.specs.declared.TestOutcome.{TestOutcome}
use Rattle.mmu.specs.declared.by_value.Translated.{Translated}
use Rattle.mmu.specs.declared.by_value.Loaded.{Loaded}
use Rattle.tableless.specs.declared.Flushed.{Flushed}
use Rattle.test.specs.Tested.{shown_tested, TestedIn}
use Rattle.mmu.specs.ByValue.{TranslatedBy, LoadedBy}
use Rattle.tableless.specs.ByValue.{FlushedBy}

module _ (g : Registers) (a : Access) (m : Memory) (c : CachePair) (r : Translated) (k : TranslatedBy (translate g a m (pair_of c)) r) where
  pub translate_first : in_translation r.answer ≡ numbers (refusal_of (translate_checks g a m (pair_of c)))
  translate_first = ap in_translation k.answers ∙ translate_refuses g m a (pair_of c)

  pub translate_keeps : (n : ℕ) → r.answer ≡ Translation.Refused n → SizedPair c → (r.count ≡ 0) × (r.caches ≡ c)
  translate_keeps n e whole =
      let left = translate_leaves g m a (pair_of c) n (sym k.answers ∙ e) in
      (k.counts ∙ ap (λ (t : TranslatedOf). length t.asked) left, pair_same r.caches c k.whole whole (k.leaves ∙ ap (λ (t : TranslatedOf). t.caches) left))

module _ (g : Registers) (code : ℕ) (write : Bool) (address : ℕ) (m : Memory) (c : CachePair) (r : Loaded) (k : LoadedBy (load g code write address m (pair_of c)) r) where
  pub load_first : in_load r.answer ≡ numbers (refusal_of (load_checks g code m (pair_of c)))
  load_first = ap in_load k.answers ∙ load_refuses g code write address m (pair_of c)

  pub load_keeps : (n : ℕ) → r.answer ≡ Load.Refused n → SizedPair c → (r.count ≡ 0) × (r.caches ≡ c)
  load_keeps n e whole =
      let left = load_leaves g code write address m (pair_of c) n (sym k.answers ∙ e) in
      (k.counts ∙ ap (λ (l : LoadedOf). length l.asked) left, pair_same r.caches c k.whole whole (k.leaves ∙ ap (λ (l : LoadedOf). l.caches) left))

module _ (g : Registers) (code : ℕ) (write : Bool) (level address : ℕ) (m : Memory) (r : TestOutcome)
    (k : TestedIn (shown_tested (test g code write level address m)) r.answer r.count) where
  pub test_first : in_test r.answer ≡ numbers (refusal_of (test_checks g code level m))
  test_first = ap in_test k.answers ∙ test_refuses g code write level address m

  pub test_keeps : (n : ℕ) → r.answer ≡ Test.Refused n → r.count ≡ 0
  test_keeps n e =
      k.counts ∙ ap (λ (t : TestedOf). length t.asked) (test_leaves g code write level address m n (sym k.answers ∙ e))

pub probe_first : (g : Registers) (own instruction write : Bool) (address : ℕ) (c : CachePair) (r : Probe) → r ≡ probe g own instruction write address (pair_of c)
    → in_probe r ≡ numbers (refusal_of (probe_checks g (pair_of c)))
probe_first g own instruction write address c r k = ap in_probe k ∙ probe_refuses g own instruction write address (pair_of c)

-- ---- the flushes
module _ (k : Checks) (c : CachePair) (done : FlushedOf) (is : done.answer ≡ Flush.Flushed) (r : Flushed) (by : FlushedBy (flush_unless k (pair_of c) done) r) where
  first : in_flush r.answer ≡ numbers (refusal_of k)
  first = ap in_flush by.answers ∙ flush_refuses k (pair_of c) done is

  keeps : (n : ℕ) → r.answer ≡ Flush.Refused n → SizedPair c → r.caches ≡ c
  keeps n e whole =
      pair_same r.caches c by.whole whole
      (by.leaves ∙ ap (λ (f : FlushedOf). f.caches) (flush_leaves k (pair_of c) done is n (sym by.answers ∙ e)))

module _ (c : CachePair) (r : Flushed) where
  pub flush_all_first : FlushedBy (flush_all (pair_of c)) r → in_flush r.answer ≡ numbers (refusal_of (flush_checks false (bad_cache (pair_of c).c030)))
  unfolding flush_all
  flush_all_first by = first _ c _ refl r by

  pub flush_all_keeps : FlushedBy (flush_all (pair_of c)) r → (n : ℕ) → r.answer ≡ Flush.Refused n → SizedPair c → r.caches ≡ c
  unfolding flush_all
  flush_all_keeps by = keeps _ c _ refl r by

  pub flush_code_first : (code mask : ℕ) → FlushedBy (flush_code code mask (pair_of c)) r
      → in_flush r.answer ≡ numbers (refusal_of (flush_checks (above_seven code || above_seven mask) (bad_cache (pair_of c).c030)))
  unfolding flush_code
  flush_code_first code mask by = first _ c _ refl r by

  pub flush_code_keeps : (code mask : ℕ) → FlushedBy (flush_code code mask (pair_of c)) r → (n : ℕ) → r.answer ≡ Flush.Refused n → SizedPair c → r.caches ≡ c
  unfolding flush_code
  flush_code_keeps code mask by = keeps _ c _ refl r by

  pub flush_page_first : (code mask address : ℕ) → FlushedBy (flush_page code mask address (pair_of c)) r
      → in_flush r.answer ≡ numbers (refusal_of (flush_checks (above_seven code || above_seven mask) (bad_cache (pair_of c).c030)))
  unfolding flush_page
  flush_page_first code mask address by = first _ c _ refl r by

  pub flush_page_keeps : (code mask address : ℕ) → FlushedBy (flush_page code mask address (pair_of c)) r → (n : ℕ) → r.answer ≡ Flush.Refused n → SizedPair c → r.caches ≡ c
  unfolding flush_page
  flush_page_keeps code mask address by = keeps _ c _ refl r by

  pub flush_frame_first : (frame : ℕ) → FlushedBy (flush_frame frame (pair_of c)) r
      → in_flush r.answer ≡ numbers (refusal_of (flush_checks (bad_frame frame) false))
  unfolding flush_frame
  flush_frame_first frame by = first _ c _ refl r by

  pub flush_frame_keeps : (frame : ℕ) → FlushedBy (flush_frame frame (pair_of c)) r → (n : ℕ) → r.answer ≡ Flush.Refused n → SizedPair c → r.caches ≡ c
  unfolding flush_frame
  flush_frame_keeps frame by = keeps _ c _ refl r by
