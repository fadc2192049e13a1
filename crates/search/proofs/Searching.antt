-- What the parts of a 68030 search give together. Assumes nothing.
use Prim.Native.Nat.{ℕ, ◌/◌, ◌%◌, ◌^◌, ◌<◌}
use mathlib.Core.Path.{◌≡◌, refl, ap, sym, ◌∙◌}
use mathlib.Core.List.{List, []}
use mathlib.Core.Bool.{Bool, true, false, not, ◌&&◌}
use lib.ListN.{length}
use Rattle.std.specs.Prelude.{if◌then◌else◌, Option, Some, None}
use Rattle.definition.specs.Words.{bit_of}
use Rattle.definition.specs.Walk030.{shift_of, physical_of}
use Rattle.definition.specs.Cache030.{Cache030, inserted}
use Rattle.definition.specs.Translate.{base_of, violation, bus_error, configuration, cached, on_end030, searched}
use Rattle.definition.specs.declared.End.{End}
use Rattle.definition.specs.declared.End.TheVariants as end
use Rattle.definition.specs.declared.FaultCause.{FaultCause}
use Rattle.definition.specs.declared.Translation.{Translation}
use Rattle.walk030.specs.declared.Walked.{Walked}
use Rattle.cache.specs.Atc030.{cache_of, Stepped}
use Rattle.checks.proofs.Bounds.{in_three_bits}
use Rattle.search.specs.Searched.{missing_cause, permitted_of, page030, end030, Ended}

module _ {a : List ℕ} (code address : ℕ) {r s : Option ℕ} (is : r ≡ s) where
  -- ---- what is cached
  module _ (physical : ℕ) (wp : Bool) where
    pub cache_none : r ≡ None → length a ≡ 69 → Stepped (λ (c : Cache030). cached s c code address physical wp) a a
    cache_none none z = rw (sym is ∙ none) (record { leaves = refl; sized = z })

    pub cache_put : {shift base : ℕ} {a' : List ℕ} → code < 8 → r ≡ Some shift → base ≡ base_of physical address shift
        → Stepped (λ (c : Cache030). inserted c (code % 8) (address / 2 ^ shift) shift base wp) a a'
        → Stepped (λ (c : Cache030). cached s c code address physical wp) a a'
    cache_put {shift} small some b k =
        rw (sym is ∙ some)
        (record {
          leaves = k.leaves ∙ rw (in_three_bits small, b) refl;
          sized = k.sized;
        })

-- a step f that is taken unless b
module _ {a : List ℕ} (f : Cache030 → Cache030) {b : Bool} where
  pub left_out : b ≡ true → length a ≡ 69 → Stepped (λ (c : Cache030). if b then c else f c) a a
  left_out e z = rw e (record { leaves = refl; sized = z })

  pub taken : {a' : List ℕ} → b ≡ false → Stepped f a a'
      → Stepped (λ (c : Cache030). if b then c else f c) a a'
  taken e k = rw e (record { leaves = k.leaves; sized = k.sized })

-- ---- a page that was found, and the other ends
module _ (tc : ℕ) {a : List ℕ} (code address : ℕ) (write : Bool) {t : Translation} where
  module _ (wp sup : Bool) (physical : ℕ) where
    page_by : (forbidden : Bool) {a' : List ℕ} → (sup && not (bit_of code 2)) ≡ forbidden
        → Stepped (λ (c : Cache030). if forbidden then c else cached (shift_of tc) c code address physical wp) a a'
        → t ≡ permitted_of forbidden write wp address physical
        → Ended (page030 tc (cache_of a) code address write wp sup physical) t a'
    unfolding page030 permitted_of
    page_by true e k f = rw e (record { answers = f; leaves = k.leaves; sized = k.sized })
    page_by false e k f = rw e (record { answers = f; leaves = k.leaves; sized = k.sized })

    pub page_is : {a' : List ℕ}
        → Stepped (λ (c : Cache030). if sup && not (bit_of code 2) then c else cached (shift_of tc) c code address physical wp) a a'
        → t ≡ permitted_of (sup && not (bit_of code 2)) write wp address physical
        → Ended (page030 tc (cache_of a) code address write wp sup physical) t a'
    page_is k f = page_by (sup && not (bit_of code 2)) refl k f

  module _ (w : Walked) where
    pub end_invalid : {indirect : Bool} {x : FaultCause} → w.end ≡ end.Invalid indirect → x ≡ missing_cause indirect → t ≡ violation x address
        → length a ≡ 69 → Ended (end030 tc (cache_of a) code address write w) t a
    unfolding end030
    end_invalid e f q z = rw e (record { answers = q ∙ ap (λ (x : FaultCause). violation x address) f; leaves = refl; sized = z })

    pub end_bus : {at : ℕ} → w.end ≡ end.BusError at → t ≡ bus_error at → length a ≡ 69
        → Ended (end030 tc (cache_of a) code address write w) t a
    unfolding end030
    end_bus e q z = rw e (record { answers = q; leaves = refl; sized = z })

    pub end_stop : w.end ≡ end.LevelStop → t ≡ configuration address → length a ≡ 69
        → Ended (end030 tc (cache_of a) code address write w) t a
    unfolding end030
    end_stop e q z = rw e (record { answers = q; leaves = refl; sized = z })

    pub end_config : w.end ≡ end.Config → t ≡ configuration address → length a ≡ 69
        → Ended (end030 tc (cache_of a) code address write w) t a
    unfolding end030
    end_config e q z = rw e (record { answers = q; leaves = refl; sized = z })

pub end_page : (tc : ℕ) (c : Cache030) (code address : ℕ) (write : Bool) (w : Walked) {t : Translation} {field consumed to : ℕ} {a : List ℕ}
    → w.end ≡ end.Page field consumed → to ≡ physical_of field consumed address
    → Ended (page030 tc c code address write w.wp w.sup to) t a → Ended (end030 tc c code address write w) t a
unfolding page030 end030
end_page tc c code address write w e f k = rw (e, ← f) k

-- ---- an end's answer and cache don't depend on what was asked for
module _ (tc : ℕ) (c : Cache030) (code address : ℕ) (write wp sup : Bool) (asked : List ℕ) where
  pub end030_asked : (e : End) → on_end030 tc c code address write wp sup asked e ≡ searched (on_end030 tc c code address write wp sup [] e).answer asked (on_end030 tc c code address write wp sup [] e).cache
  end030_asked (end.Page field consumed) = go (sup && not (bit_of code 2)) _ _ _ _
    where
      go : (b : Bool) (x y : Translation) (d e : Cache030) → (if b then searched x asked d else searched y asked e) ≡ searched (if b then searched x [] d else searched y [] e).answer asked (if b then searched x [] d else searched y [] e).cache
      go true x y d e = refl
      go false x y d e = refl
  end030_asked (end.Invalid indirect) = refl
  end030_asked (end.BusError at) = refl
  end030_asked end.LevelStop = refl
  end030_asked end.Config = refl
