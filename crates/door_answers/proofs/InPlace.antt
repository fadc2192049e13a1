-- Single answers and refusals of the calls in place, over any list of ranges.
-- x and y are the 68030's and the 68040's array at entry, x' and y' at exit. Assumes nothing.
use Prim.Native.Nat.{ℕ}
use mathlib.Core.Path.{◌≡◌, refl, ap, sym, ◌∙◌}
use mathlib.Core.List.{List, []}
use mathlib.Core.Bool.{Bool}
use borrow.Author.Tests.{ne_eqb}
use lib.ListN.{length}
use Rattle.definition.specs.Memory.{Memory}
use Rattle.definition.specs.Refusal.{Checks, refusal_of, bad_range}
use Rattle.definition.specs.Cache030.{Cache030}
use Rattle.definition.specs.Cache040.{Cache040, empty040}
use Rattle.definition.specs.Cache030 as atc030
use Rattle.definition.specs.Translate.{Caches, Translated, at_once, translate_checks}
use Rattle.definition.specs.Load.{Loaded, loaded, load_checks}
use Rattle.definition.specs.Test.{Tested, tested, test_checks}
use Rattle.definition.specs.Flush.{Flushed, flush_unless, flush_all, flush_code, flush_page, flush_frame}
use Rattle.definition.specs.declared.Registers.{Registers}
use Rattle.definition.specs.declared.Access.{Access}
use Rattle.definition.specs.declared.Translation.{Translation}
use Rattle.definition.specs.declared.Load.{Load}
use Rattle.definition.specs.declared.Test.{Test}
use Rattle.definition.specs.declared.Flush.{Flush}
use Rattle.definition.proofs.Refusals.{translate_leaves, load_leaves, test_leaves, flush_leaves}
use Rattle.cache.specs.Atc030.{cache_of}
use Rattle.cache.specs.Atc040.{cache040_of}
use Rattle.cache.specs.Pair.{pair_with, caches_of, SizedAll}
use Rattle.checks.specs.Given.{with_third}
use Rattle.translate.specs.Stages.{translate_given, Answered, shown_translated}
use Rattle.translate.specs.InPlace.{AnsweredIn}
use Rattle.translate.proofs.Staged as staged
use Rattle.load.specs.Loaded.{load_given, LoadEnded, shown_loaded, LoadedIn}
use Rattle.load.proofs.Loading as loading
use Rattle.test.specs.Tested.{test_given, TestAnswered, shown_tested, TestedIn}
use Rattle.test.proofs.Testing as testing
use Rattle.flush.specs.Flushed.{FlushedIn, FlushedIn030, FlushedIn040}
use Rattle.door_answers.proofs.Arrays.{same_arrays, same_030, same_040}

-- ---- single answers
pub translate_single : {t : Answered} {answer answer' : Translation} {count count' : ℕ} {x x' y y' : List ℕ} → AnsweredIn t answer count x y
    → AnsweredIn t answer' count' x' y' → (answer ≡ answer') × (count ≡ count') × (x ≡ x') × (y ≡ y')
translate_single a b =
    let same = same_arrays a.whole b.whole (a.leaves ∙ sym b.leaves) in
    (a.answers ∙ sym b.answers, a.counts ∙ sym b.counts, same.0, same.1)

-- a load promises the same beside any 68040 cache
pub load_single : {e : Cache040 → LoadEnded} {answer answer' : Load} {count count' : ℕ} {x x' : List ℕ} → ((k : Cache040) → LoadedIn (e k) answer count x)
    → ((k : Cache040) → LoadedIn (e k) answer' count' x') → (answer ≡ answer') × (count ≡ count') × (x ≡ x')
load_single a b =
    let r = a empty040 in
    let s = b empty040 in
    (r.answers ∙ sym s.answers, r.counts ∙ sym s.counts, same_030 r.sized s.sized (r.leaves ∙ sym s.leaves))

pub test_single : {t : TestAnswered} {answer answer' : Test} {count count' : ℕ} → TestedIn t answer count → TestedIn t answer' count'
    → (answer ≡ answer') × (count ≡ count')
test_single a b = (a.answers ∙ sym b.answers, a.counts ∙ sym b.counts)

pub flush_all_single : {f : Flushed} {answer answer' : Flush} {x x' y y' : List ℕ} → FlushedIn f answer x y → FlushedIn f answer' x' y'
    → (answer ≡ answer') × (x ≡ x') × (y ≡ y')
flush_all_single a b =
    let same = same_arrays a.whole b.whole (a.leaves ∙ sym b.leaves) in
    (a.answers ∙ sym b.answers, same.0, same.1)

-- by code and by page
pub flush_030_single : {f : Cache040 → Flushed} {answer answer' : Flush} {x x' : List ℕ} → ((k : Cache040) → FlushedIn030 (f k) k answer x)
    → ((k : Cache040) → FlushedIn030 (f k) k answer' x') → (answer ≡ answer') × (x ≡ x')
flush_030_single a b =
    let r = a empty040 in
    let s = b empty040 in
    (r.answers ∙ sym s.answers, same_030 r.sized s.sized (ap (λ (c : Caches). c.c030) (r.leaves ∙ sym s.leaves)))

-- of a frame
pub flush_040_single : {f : Cache030 → Flushed} {answer answer' : Flush} {y y' : List ℕ} → ((c : Cache030) → FlushedIn040 (f c) c answer y)
    → ((c : Cache030) → FlushedIn040 (f c) c answer' y') → (answer ≡ answer') × (y ≡ y')
flush_040_single a b =
    let r = a atc030.empty030 in
    let s = b atc030.empty030 in
    (r.answers ∙ sym s.answers, same_040 r.sized s.sized (ap (λ (c : Caches). c.c040) (r.leaves ∙ sym s.leaves)))

-- ---- a refused translation: no long is asked for, and both arrays are as they were
module _ (crossed : Bool) (g : Registers) (a : Access) (m : Memory) {x y x' y' : List ℕ} {answer : Translation} {count : ℕ} (sized : SizedAll x y)
    (k : AnsweredIn (shown_translated (translate_given crossed g a m (caches_of x y))) answer count x' y') (n : ℕ) where
  left : translate_given crossed g a m (caches_of x y) ≡ at_once (Translation.Refused n) (caches_of x y)
      → (answer ≡ Translation.Refused n) × (count ≡ 0) × (x' ≡ x) × (y' ≡ y)
  left e =
      let same = same_arrays k.whole sized (k.leaves ∙ ap (λ (t : Translated). t.caches) e) in
      (k.answers ∙ ap (λ (t : Translated). t.answer) e, k.counts ∙ ap (λ (t : Translated). length t.asked) e, same.0, same.1)

  -- whatever the caller says of check 3: where a check applies, the answer is the number of the first
  pub translate_refused : refusal_of (with_third crossed (translate_checks g a m (caches_of x y))) ≡ n → (n ≡ 0 → ⊥)
      → (answer ≡ Translation.Refused n) × (count ≡ 0) × (x' ≡ x) × (y' ≡ y)
  unfolding translate_given
  translate_refused e h = left (rw (e, ne_eqb n 0 h))

  -- of a caller who says the true word: a refusal leaves everything
  pub translate_keeps : crossed ≡ bad_range m → answer ≡ Translation.Refused n → (count ≡ 0) × (x' ≡ x) × (y' ≡ y)
  translate_keeps e r =
      let true-word = staged.given_true g a m (caches_of x y) e in
      let l = left (true-word ∙ translate_leaves g m a (caches_of x y) n (ap (λ (t : Translated). t.answer) (sym true-word) ∙ sym k.answers ∙ r)) in
      (l.1, l.2, l.3)

-- ---- a refused load: the 68040's array isn't lent
module _ (crossed : Bool) (g : Registers) (code : ℕ) (write : Bool) (address : ℕ) (m : Memory) {x x' : List ℕ} {answer : Load} {count : ℕ} (sized : length x ≡ 69)
    (k : (c : Cache040) → LoadedIn (shown_loaded (load_given crossed g code write address m (pair_with (cache_of x) c))) answer count x') (n : ℕ) where
  left_load : load_given crossed g code write address m (pair_with (cache_of x) empty040) ≡ loaded (Load.Refused n) [] (cache_of x) (pair_with (cache_of x) empty040) → (answer ≡ Load.Refused n) × (count ≡ 0) × (x' ≡ x)
  left_load e =
      let s = k empty040 in
      (s.answers ∙ ap (λ (l : Loaded). l.answer) e, s.counts ∙ ap (λ (l : Loaded). length l.asked) e, same_030 s.sized sized (s.leaves ∙ ap (λ (l : Loaded). l.caches.c030) e))

  pub load_refused : refusal_of (with_third crossed (load_checks g code m (pair_with (cache_of x) empty040))) ≡ n → (n ≡ 0 → ⊥) → (answer ≡ Load.Refused n) × (count ≡ 0) × (x' ≡ x)
  unfolding load_given
  load_refused e h = left_load (rw (e, ne_eqb n 0 h))

  pub load_keeps : crossed ≡ bad_range m → answer ≡ Load.Refused n → (count ≡ 0) × (x' ≡ x)
  load_keeps e r =
      let true-word = loading.given_true g code write address m (pair_with (cache_of x) empty040) e in
      let s = k empty040 in
      let l = left_load (true-word ∙ load_leaves g code write address m (pair_with (cache_of x) empty040) n (ap (λ (t : Loaded). t.answer) (sym true-word) ∙ sym s.answers ∙ r)) in
      (l.1, l.2)

-- ---- a refused test: it is lent nothing to change
module _ (crossed : Bool) (g : Registers) (code : ℕ) (write : Bool) (level address : ℕ) (m : Memory) {answer : Test} {count : ℕ}
    (k : TestedIn (shown_tested (test_given crossed g code write level address m)) answer count) (n : ℕ) where
  left_test : test_given crossed g code write level address m ≡ tested (Test.Refused n) [] → (answer ≡ Test.Refused n) × (count ≡ 0)
  left_test e = (k.answers ∙ ap (λ (t : Tested). t.answer) e, k.counts ∙ ap (λ (t : Tested). length t.asked) e)

  pub test_refused : refusal_of (with_third crossed (test_checks g code level m)) ≡ n → (n ≡ 0 → ⊥) → (answer ≡ Test.Refused n) × (count ≡ 0)
  unfolding test_given
  test_refused e h = left_test (rw (e, ne_eqb n 0 h))

  pub test_keeps : crossed ≡ bad_range m → answer ≡ Test.Refused n → count ≡ 0
  test_keeps e r =
      let true-word = testing.given_true g code write level address m e in
      (left_test (true-word ∙ test_leaves g code write level address m n (ap (λ (t : Tested). t.answer) (sym true-word) ∙ sym k.answers ∙ r))).1

-- ---- a refused flush
stays : (k : Checks) (c : Caches) (done : Flushed) → done.answer ≡ Flush.Flushed → (n : ℕ) {answer : Flush} → answer ≡ (flush_unless k c done).answer → answer ≡ Flush.Refused n
    → (flush_unless k c done).caches ≡ c
stays k c done is n e r = ap (λ (f : Flushed). f.caches) (flush_leaves k c done is n (sym e ∙ r))

module _ {answer : Flush} (n : ℕ) (r : answer ≡ Flush.Refused n) where
  pub flush_all_keeps : {x y x' y' : List ℕ} → SizedAll x y → FlushedIn (flush_all (caches_of x y)) answer x' y' → (x' ≡ x) × (y' ≡ y)
  unfolding flush_all
  flush_all_keeps {x} {y} sized k = same_arrays k.whole sized (k.leaves ∙ stays _ (caches_of x y) _ refl n k.answers r)

  module _ {x x' : List ℕ} (sized : length x ≡ 69) where
    pub flush_code_keeps : (code mask : ℕ) → ((c : Cache040) → FlushedIn030 (flush_code code mask (pair_with (cache_of x) c)) c answer x') → x' ≡ x
    unfolding flush_code
    flush_code_keeps code mask f =
        let k = f empty040 in
        same_030 k.sized sized (ap (λ (c : Caches). c.c030) (k.leaves ∙ stays _ (pair_with (cache_of x) empty040) _ refl n k.answers r))

    pub flush_page_keeps : (code mask address : ℕ) → ((c : Cache040) → FlushedIn030 (flush_page code mask address (pair_with (cache_of x) c)) c answer x') → x' ≡ x
    unfolding flush_page
    flush_page_keeps code mask address f =
        let k = f empty040 in
        same_030 k.sized sized (ap (λ (c : Caches). c.c030) (k.leaves ∙ stays _ (pair_with (cache_of x) empty040) _ refl n k.answers r))

  pub flush_frame_keeps : (frame : ℕ) {y y' : List ℕ} → length y ≡ 128 → ((c : Cache030) → FlushedIn040 (flush_frame frame (pair_with c (cache040_of y))) c answer y') → y' ≡ y
  unfolding flush_frame
  flush_frame_keeps frame {y} sized f =
      let k = f atc030.empty030 in
      same_040 k.sized sized (ap (λ (c : Caches). c.c040) (k.leaves ∙ stays _ (pair_with atc030.empty030 (cache040_of y)) _ refl n k.answers r))
