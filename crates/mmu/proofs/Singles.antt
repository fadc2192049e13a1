-- 'Any two results it allows are shown equal', of each call by value: what a call promises settles its answer, count and next caches. Assumes nothing.
use Prim.Native.Nat.{ℕ}
use mathlib.Core.Path.{◌≡◌, sym, ◌∙◌}
use Rattle.definition.specs.Translate.{Translated as TranslatedOf}
use Rattle.definition.specs.Load.{Loaded as LoadedOf}
use Rattle.definition.specs.Flush.{Flushed as FlushedOf}
use Rattle.definition.specs.declared.Test.{Test}
use Rattle.definition.specs.declared.Probe.{Probe}
use Rattle.cache.proofs.Pairs.{pair_same}
use Rattle.test.specs.declared.TestOutcome.{TestOutcome}
use Rattle.mmu.specs.declared.by_value.Translated.{Translated}
use Rattle.mmu.specs.declared.by_value.Loaded.{Loaded}
use Rattle.tableless.specs.declared.Flushed.{Flushed}
use Rattle.test.specs.Tested.{TestAnswered, TestedIn}
use Rattle.mmu.specs.ByValue.{translated_with, TranslatedBy, loaded_with, LoadedBy}
use Rattle.tableless.specs.ByValue.{flushed_with, FlushedBy}

pub translate_single : (t : TranslatedOf) (r s : Translated) → TranslatedBy t r → TranslatedBy t s → r ≡ s
translate_single t r s a b =
    fields (a.answers ∙ sym b.answers) (a.counts ∙ sym b.counts)
    (pair_same r.caches s.caches a.whole b.whole (a.leaves ∙ sym b.leaves))
  where
    fields : r.answer ≡ s.answer → r.count ≡ s.count → r.caches ≡ s.caches → translated_with r.answer r.count r.caches ≡ translated_with s.answer s.count s.caches
    fields e f g = cc

pub load_single : (l : LoadedOf) (r s : Loaded) → LoadedBy l r → LoadedBy l s → r ≡ s
load_single l r s a b =
    fields (a.answers ∙ sym b.answers) (a.counts ∙ sym b.counts)
    (pair_same r.caches s.caches a.whole b.whole (a.leaves ∙ sym b.leaves))
  where
    fields : r.answer ≡ s.answer → r.count ≡ s.count → r.caches ≡ s.caches → loaded_with r.answer r.count r.caches ≡ loaded_with s.answer s.count s.caches
    fields e f g = cc

pub test_single : (t : TestAnswered) (r s : TestOutcome) → TestedIn t r.answer r.count → TestedIn t s.answer s.count → r ≡ s
test_single t r s a b = fields (a.answers ∙ sym b.answers) (a.counts ∙ sym b.counts)
  where
    with : Test → ℕ → TestOutcome
    with answer count = record { answer = answer; count = count }

    fields : r.answer ≡ s.answer → r.count ≡ s.count → with r.answer r.count ≡ with s.answer s.count
    fields e f = cc

pub probe_single : (p r s : Probe) → r ≡ p → s ≡ p → r ≡ s
probe_single p r s a b = a ∙ sym b

-- the four flushes have one promise
pub flush_single : (f : FlushedOf) (r s : Flushed) → FlushedBy f r → FlushedBy f s → r ≡ s
flush_single f r s a b =
    fields (a.answers ∙ sym b.answers) (pair_same r.caches s.caches a.whole b.whole (a.leaves ∙ sym b.leaves))
  where
    fields : r.answer ≡ s.answer → r.caches ≡ s.caches → flushed_with r.answer r.caches ≡ flushed_with s.answer s.caches
    fields e g = cc
