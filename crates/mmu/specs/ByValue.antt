-- What translate and load promise by value: the definition's answer, count and next caches, of a pair whose arrays have their lengths.
use Rattle.std.specs.Prelude.{ℕ, ◌≡◌, length}
use Rattle.definition.specs.Translate.{Translated as TranslatedOf}
use Rattle.definition.specs.Load.{Loaded as LoadedOf}
use Rattle.definition.specs.declared.Translation.{Translation}
use Rattle.definition.specs.declared.Load.{Load}
use Rattle.cache.specs.Pair.{pair_of, SizedPair}
use Rattle.cache.specs.declared.CachePair.{CachePair}
use Rattle.mmu.specs.declared.by_value.Translated.{Translated}
use Rattle.mmu.specs.declared.by_value.Loaded.{Loaded}

-- what a call gives, put together
abbrev pub translated_with : Translation → ℕ → CachePair → Translated
translated_with answer count caches = record { answer = answer; count = count; caches = caches }

abbrev pub loaded_with : Load → ℕ → CachePair → Loaded
loaded_with answer count caches = record { answer = answer; count = count; caches = caches }

pub record TranslatedBy (t : TranslatedOf) (r : Translated) : Type 0 where
  pub answers : r.answer ≡ t.answer
  pub counts : r.count ≡ length t.asked
  pub leaves : pair_of r.caches ≡ t.caches
  pub whole : SizedPair r.caches

pub record LoadedBy (l : LoadedOf) (r : Loaded) : Type 0 where
  pub answers : r.answer ≡ l.answer
  pub counts : r.count ≡ length l.asked
  pub leaves : pair_of r.caches ≡ l.caches
  pub whole : SizedPair r.caches
