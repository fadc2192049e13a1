-- What a 68040 walk's end gives. Assumes nothing.
use Prim.Native.Nat.{ℕ, ◌/◌, ◌^◌}
use mathlib.Core.Path.{◌≡◌, refl, ap, ◌∙◌}
use mathlib.Core.List.{List}
use mathlib.Core.Bool.{Bool, true, false, not, ◌&&◌}
use lib.ListN.{length}
use Rattle.definition.specs.Walk040.{page_bits, frame_of, physical040}
use Rattle.definition.specs.Cache040.{Cache040, inserted040}
use Rattle.definition.specs.Translate.{violation, bus_error}
use Rattle.definition.specs.declared.Registers.{Registers}
use Rattle.definition.specs.declared.Access.{Access}
use Rattle.definition.specs.declared.End040.{End040}
use Rattle.definition.specs.declared.End040.TheVariants as end
use Rattle.definition.specs.declared.FaultCause.{FaultCause}
use Rattle.definition.specs.declared.FaultCause.TheVariants as cause
use Rattle.definition.specs.declared.Translation.{Translation}
use Rattle.walk030.specs.declared.Walked.{Walked}
use Rattle.walk040.specs.declared.Walked040.{Walked040}
use Rattle.cache.specs.Atc030.{cache_of}
use Rattle.cache.specs.Atc040.{cache040_of, Stepped040}
use Rattle.cache.specs.Pair.{caches_of, SizedAll}
use Rattle.translate.specs.Stages.{resident040, end040, after030, after040, concluded_of}
use Rattle.translate.specs.InPlace.{Ended040, Gave030, Gave040, AnsweredIn}
use Rattle.translate.specs.declared.Found.{Found}
use Rattle.translate.specs.declared.Found.TheVariants as found

-- ---- a resident 68040 page
module _ (tc address : ℕ) (supervisor write : Bool) {c040 : List ℕ} where
  module _ (field : ℕ) (wp sup : Bool) where
    pub resident_w : {t : Translation} → (write && wp) ≡ true → t ≡ violation cause.WriteProtect address → length c040 ≡ 128
        → Ended040 (resident040 tc (cache040_of c040) address supervisor write field wp sup) t c040
    unfolding resident040
    resident_w e f z = rw e (record { answers = f; leaves = refl; sized = z })

    pub resident_s : {t : Translation} → (write && wp) ≡ false → (not supervisor && sup) ≡ true → t ≡ violation cause.SupervisorProtect address → length c040 ≡ 128
        → Ended040 (resident040 tc (cache040_of c040) address supervisor write field wp sup) t c040
    unfolding resident040
    resident_s e h f z = rw (e, h) (record { answers = f; leaves = refl; sized = z })

    pub resident_in : {bits base to : ℕ} {c040' : List ℕ} → (write && wp) ≡ false → (not supervisor && sup) ≡ false → bits ≡ page_bits tc
        → base ≡ frame_of tc field
        → Stepped040 (λ (c : Cache040). inserted040 c (address / 2 ^ bits) supervisor base wp sup) c040 c040'
        → to ≡ physical040 tc field address
        → Ended040 (resident040 tc (cache040_of c040) address supervisor write field wp sup) (Translation.Address to) c040'
    unfolding resident040
    resident_in e h b f k p =
        rw (e, h) (record { answers = ap Translation.Address p; leaves = k.leaves ∙ rw (b, f) refl; sized = k.sized })

  -- ---- the other ends
  pub end_absent : {t : Translation} {e : End040} {missing : FaultCause} → e ≡ end.Absent missing → t ≡ violation missing address → length c040 ≡ 128
      → Ended040 (end040 tc (cache040_of c040) address supervisor write e) t c040
  unfolding end040
  end_absent e f z = rw e (record { answers = f; leaves = refl; sized = z })

  pub end_lost : {t : Translation} {e : End040} {at : ℕ} → e ≡ end.Lost at → t ≡ bus_error at → length c040 ≡ 128
      → Ended040 (end040 tc (cache040_of c040) address supervisor write e) t c040
  unfolding end040
  end_lost e f z = rw e (record { answers = f; leaves = refl; sized = z })

pub end_resident : (tc : ℕ) (c : Cache040) (address : ℕ) (supervisor write : Bool) {e : End040} {field : ℕ} {wp sup : Bool} {t : Translation} {c040 : List ℕ}
    → e ≡ end.Resident field wp sup → Ended040 (resident040 tc c address supervisor write field wp sup) t c040
    → Ended040 (end040 tc c address supervisor write e) t c040
unfolding end040
end_resident tc c address supervisor write e k = rw e k

-- ---- what the walk that was asked for gives
module _ (g : Registers) (a : Access) {c030 c040 : List ℕ} (z : SizedAll c030 c040) {f : Found} {t : Translation} {n : ℕ} where
  pub concludes : {x : Translation} → f ≡ found.Settled x → t ≡ x → n ≡ 0 → AnsweredIn (concluded_of g a (caches_of c030 c040) f) t n c030 c040
  unfolding concluded_of
  concludes e et en = rw e (record { answers = et; counts = en; leaves = refl; whole = z })

  pub concludes_030 : {code : ℕ} {w : Walked} {c030' : List ℕ} → f ≡ found.By030 code w → Gave030 g a (cache_of c030) code w t n c030'
      → AnsweredIn (concluded_of g a (caches_of c030 c040) f) t n c030' c040
  unfolding concluded_of after030
  concludes_030 e q =
      rw e (record { answers = q.0.answers; counts = q.1; leaves = rw q.0.leaves refl; whole = record { sized = q.0.sized; sized040 = z.sized040 } })

  pub concludes_040 : {supervisor : Bool} {w : Walked040} {c040' : List ℕ} → f ≡ found.By040 supervisor w → Gave040 g a (cache040_of c040) supervisor w t n c040'
      → AnsweredIn (concluded_of g a (caches_of c030 c040) f) t n c030 c040'
  unfolding concluded_of after040
  concludes_040 e q =
      rw e (record { answers = q.0.answers; counts = q.1; leaves = rw q.0.leaves refl; whole = record { sized = z.sized; sized040 = q.0.sized } })
