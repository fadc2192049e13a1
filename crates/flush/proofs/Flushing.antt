-- What the parts of a flush give together. Assumes nothing.
use Prim.Native.Nat.{ℕ}
use mathlib.Core.Path.{◌≡◌, refl, ap, sym, ◌∙◌}
use mathlib.Core.List.{List}
use lib.ListN.{length}
use mathlib.Core.Bool.{Bool, false}
use borrow.Author.Tests.{ne_eqb}
use Rattle.definition.specs.Cache030.{Cache030, flushed_all}
use Rattle.definition.specs.Cache040.{Cache040, flushed_all040}
use Rattle.definition.specs.Refusal.{bad_cache, refusal_of}
use Rattle.definition.specs.Flush.{Flushed, flushed, flush_checks, flush_unless, flush_all}
use Rattle.definition.specs.declared.Flush.{Flush}
use Rattle.cache.specs.Atc030.{cache_of, Stepped}
use Rattle.cache.specs.Atc040.{cache040_of, Stepped040}
use Rattle.checks.specs.Given.{checks_of}
use Rattle.cache.specs.Pair.{caches_of, pair_with, SizedAll}
use Rattle.flush.specs.Flushed.{FlushedIn, FlushedIn030, FlushedIn040}

-- the number that a flush is refused with
refusal : (five : Bool) (c : Cache030) {n : ℕ} {four : Bool} → four ≡ bad_cache c → n ≡ refusal_of (checks_of false false five false false four)
    → n ≡ refusal_of (flush_checks five (bad_cache c))
refusal five c e n = rw (← e) n

-- ---- the 68030 cache: a flush that f does, unless 5 or 4 applies
module _ (five : Bool) (k : Cache040) (f : Cache030 → Cache030) where
  abbrev pub flush030 : Cache030 → Flushed
  flush030 c = flush_unless (flush_checks five (bad_cache c)) (pair_with c k) (flushed Flush.Flushed (f c) k)

  module _ {a : List ℕ} {n : ℕ} {four : Bool} (is-four : four ≡ bad_cache (cache_of a))
      (first : n ≡ refusal_of (checks_of false false five false false four)) where
    pub refused_030 : (n ≡ 0 → ⊥) → length a ≡ 69 → FlushedIn030 (flush030 (cache_of a)) k (Flush.Refused n) a
    refused_030 h z = rw (← refusal five (cache_of a) is-four first, ne_eqb n 0 h) (record { answers = refl; leaves = refl; sized = z })

    pub done_030 : {a' : List ℕ} → n ≡ 0 → Stepped f a a'
        → FlushedIn030 (flush030 (cache_of a)) k Flush.Flushed a'
    done_030 e s = rw (sym (refusal five (cache_of a) is-four first) ∙ e) (record { answers = refl; leaves = ap (λ (x : Cache030). pair_with x k) s.leaves; sized = s.sized })

-- ---- the 68040 cache
module _ (five : Bool) (c : Cache030) (f : Cache040 → Cache040) {n : ℕ} (first : n ≡ refusal_of (checks_of false false five false false false)) where
  abbrev pub flush040 : Cache040 → Flushed
  flush040 k = flush_unless (flush_checks five false) (pair_with c k) (flushed Flush.Flushed c (f k))

  pub refused_040 : {b : List ℕ} → (n ≡ 0 → ⊥) → length b ≡ 128 → FlushedIn040 (flush040 (cache040_of b)) c (Flush.Refused n) b
  refused_040 h z = rw (← first, ne_eqb n 0 h) (record { answers = refl; leaves = refl; sized = z })

  pub done_040 : {b b' : List ℕ} → n ≡ 0 → Stepped040 f b b' → FlushedIn040 (flush040 (cache040_of b)) c Flush.Flushed b'
  done_040 e s = rw (sym first ∙ e) (record { answers = refl; leaves = ap (pair_with c) s.leaves; sized = s.sized })

-- ---- both
module _ {a b : List ℕ} {n : ℕ} {four : Bool} (is-four : four ≡ bad_cache (cache_of a))
    (first : n ≡ refusal_of (checks_of false false false false false four)) where
  pub refused_all : (n ≡ 0 → ⊥) → SizedAll a b → FlushedIn (flush_all (caches_of a b)) (Flush.Refused n) a b
  unfolding flush_all
  refused_all h z = rw (← refusal false (cache_of a) is-four first, ne_eqb n 0 h) (record { answers = refl; leaves = refl; whole = z })

  pub done_all : {a' b' : List ℕ} → n ≡ 0 → Stepped flushed_all a a' → Stepped040 flushed_all040 b b'
      → FlushedIn (flush_all (caches_of a b)) Flush.Flushed a' b'
  unfolding flush_all
  done_all e s t =
      rw (sym (refusal false (cache_of a) is-four first) ∙ e)
      (record { answers = refl; leaves = rw (s.leaves, t.leaves) refl; whole = record { sized = s.sized; sized040 = t.sized } })
