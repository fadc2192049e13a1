-- From what a call promises to the line that its record prints. Assumes nothing.
use Prim.Native.Nat.{ℕ}
use mathlib.Core.Path.{◌≡◌, refl, ap, sym, ◌∙◌}
use mathlib.Core.List.{List}
use mathlib.Core.Bool.{Bool, true, false, not}
use Rattle.definition.specs.Memory.{Memory}
use lib.Dec.{eqb}
use Rattle.std.specs.Prelude.{if◌then◌else◌}
use Rattle.definition.specs.Registers.{on}
use Rattle.definition.specs.Transparent.{transparent030}
use Rattle.definition.specs.Walk030.{shift_of}
use Rattle.definition.specs.Refusal.{bad_range, refusal_of}
use Rattle.definition.specs.Cache030.{Cache030}
use Rattle.definition.specs.Cache040.{Cache040}
use Rattle.definition.specs.Translate.{Caches}
use Rattle.definition.specs.Load.{Loaded, load_checks, load_in_order, stopped}
use Rattle.definition.specs.Probe.{probe}
use Rattle.definition.specs.Flush.{flush_all, flush_code, flush_page, flush_frame}
use Rattle.definition.specs.Calls as calls
use Rattle.definition.specs.Calls.{Call, translation_line, load_line, test_line, probe_line, flush_line, calling, of_flushed}
use Rattle.definition.specs.declared.Registers.{Registers}
use Rattle.definition.specs.declared.Access.{Access}
use Rattle.definition.specs.declared.Translation.{Translation}
use Rattle.definition.specs.declared.Load.{Load}
use Rattle.definition.specs.declared.Test.{Test}
use Rattle.definition.specs.declared.Probe.{Probe}
use Rattle.definition.specs.declared.Flush.{Flush}
use Rattle.trace.specs.Lines.{line_in}
use Rattle.trace.specs.Records.{call_in}
use Rattle.trace.specs.declared.Call.{Call as Made}
use Rattle.trace.specs.declared.Line.{Line}
use Rattle.cache.specs.Atc030.{cache_of}
use Rattle.cache.specs.Atc040.{cache040_of}
use Rattle.translate.specs.Stages.{translate_given, shown_translated}
use Rattle.translate.proofs.Staged.{given_true}
use Rattle.test.proofs.Testing as testing
use Rattle.load.specs.Loaded.{load_given, shown_loaded, LoadedIn}
use Rattle.test.specs.Tested.{test_given, shown_tested, TestedIn}
use Rattle.cache.specs.Pair.{caches_of, pair_with}
use Rattle.translate.specs.InPlace.{AnsweredIn}
use Rattle.flush.specs.Flushed.{FlushedIn, FlushedIn030, FlushedIn040}
use Rattle.load.proofs.Loading as loading
use Rattle.checks.specs.Given.{with_third}
use Rattle.checks.proofs.Pairs.{beside}
use Rattle.replay.specs.Playing.{calling_given, CalledIn, Tests}

-- with the true word a call is the definition's
pub given_calling : (g : Registers) (m : Memory) (c : Caches) {crossed : Bool} → crossed ≡ bad_range m → (call : Call)
    → calling_given crossed g m c call ≡ calling g m c call
unfolding calling calling_given
given_calling g m c h (calls.access a) = rw (given_true g a m c h)
given_calling g m c h (calls.loading code write address) = rw (loading.given_true g code write address m c h)
given_calling g m c h (calls.testing code write level address) = rw (testing.given_true g code write level address m h)
given_calling g m c h (calls.probing own instruction write address) = refl
given_calling g m c h calls.flushing_all = refl
given_calling g m c h (calls.flushing_code code mask) = refl
given_calling g m c h (calls.flushing_page code mask address) = refl
given_calling g m c h (calls.flushing_frame frame) = refl

-- a call with that word, once it is the true one
pub true_call : (g : Registers) (m : Memory) (c : Caches) {crossed : Bool} (h : crossed ≡ bad_range m) (call : Call) {l : Line} {c030 c040 : List ℕ}
    → CalledIn (calling_given crossed g m c call) l c030 c040 → CalledIn (calling g m c call) l c030 c040
true_call g m c h call k = rw (← given_calling g m c h call) k

-- a load leaves the 68040 cache, whatever the word
given_beside : (crossed : Bool) (g : Registers) (code : ℕ) (write : Bool) (address : ℕ) (m : Memory) (c : Caches)
    → (load_given crossed g code write address m c).caches.c040 ≡ c.c040
unfolding load_given load_in_order
given_beside crossed g code write address m c =
    stays (eqb (refusal_of (with_third crossed (load_checks g code m c))) 0) _ _
    (stays (not (on g)) _ _ refl (stays (stopped (shift_of g.tc) (transparent030 g address code write)) _ _ refl refl)) refl
  where
    stays : (b : Bool) (x y : Loaded) → x.caches.c040 ≡ c.c040 → y.caches.c040 ≡ c.c040 → (if b then x else y).caches.c040 ≡ c.c040
    stays true x y h k = h
    stays false x y h k = k

module _ (crossed : Bool) (g : Registers) (m : Memory) {l : Line} where
  pub of_translate : (a : Access) (c : Caches) {t : Translation} {n : ℕ} {c030 c040 : List ℕ}
      → AnsweredIn (shown_translated (translate_given crossed g a m c)) t n c030 c040 → line_in l ≡ translation_line n t
      → CalledIn (calling_given crossed g m c (calls.access a)) l c030 c040
  unfolding calling_given
  of_translate a c k e = record { prints = e ∙ rw (k.answers, k.counts) refl; leaves = k.leaves }

  pub of_load : (code : ℕ) (write : Bool) (address : ℕ) (c : Cache030) (k : Cache040) {t : Load} {n : ℕ} {c030 c040 : List ℕ} → k ≡ cache040_of c040
      → LoadedIn (shown_loaded (load_given crossed g code write address m (pair_with c k))) t n c030 → line_in l ≡ load_line n t
      → CalledIn (calling_given crossed g m (pair_with c k) (calls.loading code write address)) l c030 c040
  unfolding calling_given
  of_load code write address c k e q f =
      record {
        prints = f ∙ rw (q.answers, q.counts) refl;
        leaves = beside (load_given crossed g code write address m (pair_with c k)).caches q.leaves (sym e ∙ sym (given_beside crossed g code write address m (pair_with c k)));
      }

  pub of_test : (code : ℕ) (write : Bool) (level address : ℕ) {t : Test} {n : ℕ}
      → TestedIn (shown_tested (test_given crossed g code write level address m)) t n → line_in l ≡ test_line n t → Tests crossed g m code write level address l
  unfolding calling_given
  of_test code write level address k e = record { prints = λ c. e ∙ rw (k.answers, k.counts) refl; leaves = λ c. refl }

  pub of_probe : (own instruction write : Bool) (address : ℕ) (c030 c040 : List ℕ) {p : Probe}
      → p ≡ probe g own instruction write address (caches_of c030 c040) → line_in l ≡ probe_line p
      → CalledIn (calling_given crossed g m (caches_of c030 c040) (calls.probing own instruction write address)) l c030 c040
  unfolding calling calling_given
  of_probe own instruction write address c030 c040 k e = record { prints = e ∙ ap probe_line k; leaves = refl }

  -- ---- the flushes
  pub of_flush_all : (c : Caches) {f : Flush} {c030 c040 : List ℕ} → FlushedIn (flush_all c) f c030 c040 → line_in l ≡ flush_line f
      → CalledIn (calling_given crossed g m c calls.flushing_all) l c030 c040
  unfolding calling calling_given
  of_flush_all c k e = record { prints = e ∙ ap flush_line k.answers; leaves = k.leaves }

  pub of_flush_code : (code mask : ℕ) (c : Cache030) {f : Flush} {c030 c040 : List ℕ}
      → FlushedIn030 (flush_code code mask (pair_with c (cache040_of c040))) (cache040_of c040) f c030 → line_in l ≡ flush_line f
      → CalledIn (calling_given crossed g m (pair_with c (cache040_of c040)) (calls.flushing_code code mask)) l c030 c040
  unfolding calling calling_given
  of_flush_code code mask c k e = record { prints = e ∙ ap flush_line k.answers; leaves = k.leaves }

  pub of_flush_page : (code mask address : ℕ) (c : Cache030) {f : Flush} {c030 c040 : List ℕ}
      → FlushedIn030 (flush_page code mask address (pair_with c (cache040_of c040))) (cache040_of c040) f c030 → line_in l ≡ flush_line f
      → CalledIn (calling_given crossed g m (pair_with c (cache040_of c040)) (calls.flushing_page code mask address)) l c030 c040
  unfolding calling calling_given
  of_flush_page code mask address c k e = record { prints = e ∙ ap flush_line k.answers; leaves = k.leaves }

  pub of_flush_frame : (frame : ℕ) (k : Cache040) {f : Flush} {c030 c040 : List ℕ}
      → FlushedIn040 (flush_frame frame (pair_with (cache_of c030) k)) (cache_of c030) f c040 → line_in l ≡ flush_line f
      → CalledIn (calling_given crossed g m (pair_with (cache_of c030) k) (calls.flushing_frame frame)) l c030 c040
  unfolding calling calling_given
  of_flush_frame frame k q e = record { prints = e ∙ ap flush_line q.answers; leaves = q.leaves }

-- a call that was told apart
pub by_call : (crossed : Bool) (g : Registers) (m : Memory) (c : Caches) {x y : Made} {l : Line} {c030 c040 : List ℕ} → x ≡ y
    → CalledIn (calling_given crossed g m c (call_in y)) l c030 c040 → CalledIn (calling_given crossed g m c (call_in x)) l c030 c040
by_call crossed g m c e p = rw e p
