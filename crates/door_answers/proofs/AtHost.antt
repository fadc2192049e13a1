-- Single answers and refusals of the host's calls, by the numbers that it is told: a refusal is told as 2, its number and zeros, and the arrays that
-- the host lent are as they were. x and y are the arrays at entry, x' and y' at exit; an array's length is its type's. Assumes nothing.
use Prim.Native.Nat.{ℕ}
use mathlib.Core.Path.{◌≡◌, refl, ap, sym, ◌∙◌}
use mathlib.Core.List.{List, [], ◌∷◌}
use mathlib.Core.Bool.{Bool}
use native.Mathlib.Omega.{arith}
use lib.ListN.{length, get_or}
use Rattle.definition.specs.Memory.{Memory}
use Rattle.definition.specs.Refusal.{Checks}
use Rattle.definition.specs.Cache030.{Cache030, empty030}
use Rattle.definition.specs.Cache040.{Cache040, empty040}
use Rattle.definition.specs.Translate.{Caches, Translated, empty_caches, translate}
use Rattle.definition.specs.Load.{Loaded, load}
use Rattle.definition.specs.Test.{test}
use Rattle.definition.specs.Flush.{Flushed, flush_unless, flush_all, flush_code, flush_page, flush_frame}
use Rattle.definition.specs.declared.Registers.{Registers}
use Rattle.definition.specs.declared.Access.{Access}
use Rattle.definition.specs.declared.Translation.{Translation}
use Rattle.definition.specs.declared.Translation.TheVariants as translation
use Rattle.definition.specs.declared.Load.{Load}
use Rattle.definition.specs.declared.Load.TheVariants as load'
use Rattle.definition.specs.declared.Test.{Test}
use Rattle.definition.specs.declared.Test.TheVariants as test'
use Rattle.definition.specs.declared.Flush.{Flush}
use Rattle.definition.specs.declared.Flush.TheVariants as flush'
use Rattle.definition.proofs.Refusals.{translate_leaves, load_leaves, test_leaves, flush_leaves}
use Rattle.cache.specs.Atc030.{cache_of}
use Rattle.cache.specs.Atc040.{cache040_of}
use Rattle.cache.specs.Pair.{pair_with, caches_of, SizedAll}
use Rattle.numbers.specs.Numbers.{translation_numbers, load_numbers, test_numbers, tested_numbers, flush_number, TranslatedTo, LoadedTo, FlushedTo}
use Rattle.door_answers.proofs.Arrays.{same_arrays, same_030, same_040}

-- ---- single answers. `mmu_test`, `mmu_probe`, `mmu_audit` and `mmu_finding` promise one equation for all their numbers
pub empty_single : {x x' y y' : List ℕ} → SizedAll x y → SizedAll x' y' → caches_of x y ≡ empty_caches → caches_of x' y' ≡ empty_caches → (x ≡ x') × (y ≡ y')
empty_single w v e f = same_arrays w v (e ∙ sym f)

pub translate_single : {t : Translated} {out out' x x' y y' : List ℕ} → SizedAll x y → SizedAll x' y' → TranslatedTo t out (caches_of x y)
    → TranslatedTo t out' (caches_of x' y') → (out ≡ out') × (x ≡ x') × (y ≡ y')
translate_single w v a b =
    let same = same_arrays w v (a.leaves ∙ sym b.leaves) in
    (a.answers ∙ sym b.answers, same.0, same.1)

pub load_single : {l : Cache040 → Loaded} {out out' x x' : List ℕ} → length x ≡ 69 → length x' ≡ 69 → ((k : Cache040) → LoadedTo (l k) out (cache_of x))
    → ((k : Cache040) → LoadedTo (l k) out' (cache_of x')) → (out ≡ out') × (x ≡ x')
load_single w v a b =
    let r = a empty040 in
    let s = b empty040 in
    (r.answers ∙ sym s.answers, same_030 w v (r.leaves ∙ sym s.leaves))

pub flush_all_single : {f : Flushed} {r r' : ℕ} {x x' y y' : List ℕ} → SizedAll x y → SizedAll x' y' → FlushedTo f r (caches_of x y)
    → FlushedTo f r' (caches_of x' y') → (r ≡ r') × (x ≡ x') × (y ≡ y')
flush_all_single w v a b =
    let same = same_arrays w v (a.leaves ∙ sym b.leaves) in
    (a.answers ∙ sym b.answers, same.0, same.1)

pub flush_030_single : {f : Cache040 → Flushed} {r r' : ℕ} {x x' : List ℕ} → length x ≡ 69 → length x' ≡ 69
    → ((k : Cache040) → FlushedTo (f k) r (pair_with (cache_of x) k)) → ((k : Cache040) → FlushedTo (f k) r' (pair_with (cache_of x') k)) → (r ≡ r') × (x ≡ x')
flush_030_single w v a b =
    let r = a empty040 in
    let s = b empty040 in
    (r.answers ∙ sym s.answers, same_030 w v (ap (λ (c : Caches). c.c030) (r.leaves ∙ sym s.leaves)))

pub flush_040_single : {f : Cache030 → Flushed} {r r' : ℕ} {y y' : List ℕ} → length y ≡ 128 → length y' ≡ 128
    → ((c : Cache030) → FlushedTo (f c) r (pair_with c (cache040_of y))) → ((c : Cache030) → FlushedTo (f c) r' (pair_with c (cache040_of y'))) → (r ≡ r') × (y ≡ y')
flush_040_single w v a b =
    let r = a empty030 in
    let s = b empty030 in
    (r.answers ∙ sym s.answers, same_040 w v (ap (λ (c : Caches). c.c040) (r.leaves ∙ sym s.leaves)))

-- ---- refusals
-- the five numbers of a refusal
abbrev pub refusal : ℕ → List ℕ
refusal n = 2 ∷ n ∷ 0 ∷ 0 ∷ 0 ∷ []

-- an answer that is told as 2 is a refusal
module _ (count : ℕ) where
  translation_told : (t : Translation) → get_or (translation_numbers t count) 0 0 ≡ 2 → t ≡ Translation.Refused (get_or (translation_numbers t count) 1 0)
  translation_told (translation.Address x) e = absurd (omega (arith, e))
  translation_told (translation.Fault kind cause x) e = absurd (omega (arith, e))
  translation_told (translation.Refused n) e = refl

  load_told : (l : Load) → get_or (load_numbers l count) 0 0 ≡ 2 → l ≡ Load.Refused (get_or (load_numbers l count) 1 0)
  load_told load'.Loaded e = absurd (omega (arith, e))
  load_told (load'.Refused n) e = refl

  test_told : (t : Test) → get_or (test_numbers t count) 0 0 ≡ 2 → t ≡ Test.Refused (get_or (test_numbers t count) 1 0)
  test_told (test'.Status mmusr address) e = absurd (omega (arith, e))
  test_told (test'.Refused n) e = refl

-- what is told as a refusal's five numbers
as_refusal : {out : List ℕ} {n : ℕ} → out ≡ refusal n → out ≡ refusal (get_or out 1 0)
as_refusal e = e ∙ ap refusal (sym (ap (λ (l : List ℕ). get_or l 1 0) e))

first : {out out' : List ℕ} → out ≡ out' → get_or out 0 0 ≡ 2 → get_or out' 0 0 ≡ 2
first e f = sym (ap (λ (l : List ℕ). get_or l 0 0) e) ∙ f

pub translate_keeps : (g : Registers) (a : Access) (m : Memory) {out x y x' y' : List ℕ} → SizedAll x y → SizedAll x' y'
    → TranslatedTo (translate g a m (caches_of x y)) out (caches_of x' y') → get_or out 0 0 ≡ 2 → (out ≡ refusal (get_or out 1 0)) × (x' ≡ x) × (y' ≡ y)
translate_keeps g a m {out} {x} {y} w v k e =
    let t = translate g a m (caches_of x y) in
    let left = translate_leaves g m a (caches_of x y) _ (translation_told (length t.asked) t.answer (first k.answers e)) in
    let same = same_arrays v w (k.leaves ∙ ap (λ (u : Translated). u.caches) left) in
    (as_refusal (k.answers ∙ ap (λ (u : Translated). translation_numbers u.answer (length u.asked)) left), same.0, same.1)

pub load_keeps : (g : Registers) (code : ℕ) (write : Bool) (address : ℕ) (m : Memory) {out x x' : List ℕ} → length x ≡ 69 → length x' ≡ 69
    → ((k : Cache040) → LoadedTo (load g code write address m (pair_with (cache_of x) k)) out (cache_of x')) → get_or out 0 0 ≡ 2
    → (out ≡ refusal (get_or out 1 0)) × (x' ≡ x)
load_keeps g code write address m {out} {x} w v f e =
    let k = f empty040 in
    let c = pair_with (cache_of x) empty040 in
    let t = load g code write address m c in
    let left = load_leaves g code write address m c _ (load_told (length t.asked) t.answer (first k.answers e)) in
    (as_refusal (k.answers ∙ ap (λ (u : Loaded). load_numbers u.answer (length u.asked)) left), same_030 v w (k.leaves ∙ ap (λ (u : Loaded). u.caches.c030) left))

-- a test is lent nothing to change but the five numbers
pub test_keeps : (g : Registers) (code : ℕ) (write : Bool) (level address : ℕ) (m : Memory) {out : List ℕ}
    → out ≡ tested_numbers (test g code write level address m) → get_or out 0 0 ≡ 2 → out ≡ refusal (get_or out 1 0)
test_keeps g code write level address m k e =
    let t = test g code write level address m in
    as_refusal (k ∙ ap tested_numbers (test_leaves g code write level address m _ (test_told (length t.asked) t.answer (first k e))))

-- a flush that is told as another number than 0
flush_told : (f : Flush) → (flush_number f ≡ 0 → ⊥) → f ≡ Flush.Refused (flush_number f)
flush_told flush'.Flushed h = absurd (h refl)
flush_told (flush'.Refused n) h = refl

stays : (k : Checks) (c : Caches) (done : Flushed) → done.answer ≡ Flush.Flushed → {r : ℕ} → r ≡ flush_number (flush_unless k c done).answer → (r ≡ 0 → ⊥)
    → (flush_unless k c done).caches ≡ c
stays k c done is e h =
    ap (λ (f : Flushed). f.caches) (flush_leaves k c done is _ (flush_told (flush_unless k c done).answer (λ z. h (e ∙ z))))

module _ {r : ℕ} (h : r ≡ 0 → ⊥) where
  pub flush_all_keeps : {x y x' y' : List ℕ} → SizedAll x y → SizedAll x' y' → FlushedTo (flush_all (caches_of x y)) r (caches_of x' y') → (x' ≡ x) × (y' ≡ y)
  unfolding flush_all
  flush_all_keeps {x} {y} w v k = same_arrays v w (k.leaves ∙ stays _ (caches_of x y) _ refl k.answers h)

  module _ {x x' : List ℕ} (w : length x ≡ 69) (v : length x' ≡ 69) where
    pub flush_code_keeps : (code mask : ℕ) → ((c : Cache040) → FlushedTo (flush_code code mask (pair_with (cache_of x) c)) r (pair_with (cache_of x') c)) → x' ≡ x
    unfolding flush_code
    flush_code_keeps code mask f =
        let k = f empty040 in
        same_030 v w (ap (λ (c : Caches). c.c030) (k.leaves ∙ stays _ (pair_with (cache_of x) empty040) _ refl k.answers h))

    pub flush_page_keeps : (code mask address : ℕ) → ((c : Cache040) → FlushedTo (flush_page code mask address (pair_with (cache_of x) c)) r (pair_with (cache_of x') c)) → x' ≡ x
    unfolding flush_page
    flush_page_keeps code mask address f =
        let k = f empty040 in
        same_030 v w (ap (λ (c : Caches). c.c030) (k.leaves ∙ stays _ (pair_with (cache_of x) empty040) _ refl k.answers h))

  pub flush_frame_keeps : (frame : ℕ) {y y' : List ℕ} → length y ≡ 128 → length y' ≡ 128
      → ((c : Cache030) → FlushedTo (flush_frame frame (pair_with c (cache040_of y))) r (pair_with c (cache040_of y'))) → y' ≡ y
  unfolding flush_frame
  flush_frame_keeps frame {y} w v f =
      let k = f empty030 in
      same_040 v w (ap (λ (c : Caches). c.c040) (k.leaves ∙ stays _ (pair_with empty030 (cache040_of y)) _ refl k.answers h))
