-- The pair behind a `&mut`: what a call by value gives, taken apart. Assumes nothing.
use mathlib.Core.Path.{◌≡◌}
use Rattle.definition.specs.Translate.{Translated as TranslatedOf}
use Rattle.definition.specs.Load.{Loaded as LoadedOf}
use Rattle.definition.specs.Flush.{Flushed as FlushedOf}
use Rattle.definition.specs.declared.Flush.{Flush}
use Rattle.cache.specs.declared.CachePair.{CachePair}
use Rattle.translate.specs.declared.Outcome.{Outcome}
use Rattle.load.specs.declared.LoadOutcome.{LoadOutcome}
use Rattle.tableless.specs.declared.Flushed.{Flushed}
use Rattle.tableless.specs.ByValue.{flushed_with, FlushedBy}
use Rattle.mmu.specs.declared.by_value.Translated.{Translated}
use Rattle.mmu.specs.declared.by_value.Loaded.{Loaded}
use Rattle.mmu.specs.ByValue.{translated_with, TranslatedBy, loaded_with, LoadedBy}

pub translates_in : {t : TranslatedOf} {d : Translated} {new : CachePair} {r : Outcome} → TranslatedBy t d → new ≡ d.caches
    → (r.answer ≡ d.answer) × (r.count ≡ d.count) → TranslatedBy t (translated_with r.answer r.count new)
translates_in k e f = rw (e, f.0, f.1) (record { answers = k.answers; counts = k.counts; leaves = k.leaves; whole = k.whole })

pub loads_in : {l : LoadedOf} {d : Loaded} {new : CachePair} {r : LoadOutcome} → LoadedBy l d → new ≡ d.caches
    → (r.answer ≡ d.answer) × (r.count ≡ d.count) → LoadedBy l (loaded_with r.answer r.count new)
loads_in k e f = rw (e, f.0, f.1) (record { answers = k.answers; counts = k.counts; leaves = k.leaves; whole = k.whole })

pub flushes_in : {f : FlushedOf} {d : Flushed} {new : CachePair} {r : Flush} → FlushedBy f d → new ≡ d.caches → r ≡ d.answer → FlushedBy f (flushed_with r new)
flushes_in k e f = rw (e, f) (record { answers = k.answers; leaves = k.leaves; whole = k.whole })
