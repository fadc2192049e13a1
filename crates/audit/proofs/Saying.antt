-- What is said of one entry: the covered functions, over plain values, and that what they make is the definition's. Assumes nothing.
use Prim.Native.Nat.{ℕ, ◌/◌, ◌%◌}
use mathlib.Core.Path.{◌≡◌, refl, ◌∙◌}
use mathlib.Core.List.{List}
use mathlib.Core.Bool.{Bool, true, false, not, ◌&&◌, ◌||◌}
use borrow.Author.Tests.{eq-eqb, ne_eqb}
use lib.Dec.{eqb}
use lib.ListN.{get_or}
use Rattle.std.specs.Prelude.{if◌then◌else◌, Option, Some, None}
use Rattle.definition.specs.Words.{bit_of}
use Rattle.definition.specs.Memory.{Memory}
use Rattle.definition.specs.Registers.{code_of}
use Rattle.definition.specs.Walk040.{page_bits}
use Rattle.definition.specs.Cache030.{no_entry}
use Rattle.definition.specs.Cache040.{no_slot, same_bool, slot_hit}
use Rattle.definition.specs.Refusal.{bad_base, bad_range, refusal_of}
use Rattle.definition.specs.Translate.{Caches, translate, cacheless, empty_caches}
use Rattle.definition.specs.Audit.{bare, plain_access, audit_checks, finding030, finding040, finding_family, finding}
use Rattle.definition.specs.declared.Registers.{Registers}
use Rattle.definition.specs.declared.Access.{Access}
use Rattle.definition.specs.declared.Translation.{Translation}
use Rattle.definition.specs.declared.Finding.{Finding}
use Rattle.cache.specs.Packed.{odd}
use Rattle.cache.specs.Atc030.{entries_of, tags_of, pages_of, stamps_of, shift_in, cache_of}
use Rattle.cache.specs.Atc040.{slot_of, slots_of, keys_of, bases_of, cache040_of}
use Rattle.cache.specs.Pair.{caches_of, SizedAll}
use Rattle.cache.proofs.Entries.{entries_get}
use Rattle.cache.proofs.Laws030.{level}
use Rattle.cache.proofs.Slots.{slots_get, level_040}
use Rattle.mmu.specs.ByValue.{TranslatedBy}
use Rattle.mmu.specs.declared.by_value.Translated.{Translated}
use Rattle.audit.specs.declared.Cached.{Cached}
use Rattle.audit.specs.Machine.{audit_refusal, cached_at, LooksAt, wrapped_of, address_for}
use Rattle.audit.specs.Told.{code_for, permits030, permits040, hit_for, access_for, told_of}

-- ---- the covered functions
module _ (g : Registers) (x : Cached) where
  pub code_030 : g.family ≡ 30 → x.key / 2 % 8 ≡ code_for g x
  unfolding code_for
  code_030 f = rw (eq-eqb g.family 30 f)

  pub code_040 : (g.family ≡ 30 → ⊥) → {r : ℕ} → r ≡ code_of (odd (x.key / 2)) false → r ≡ code_for g x
  unfolding code_for
  code_040 f e = rw (ne_eqb g.family 30 f) e

  module _ (write : Bool) where
    pub hit_none : (x.key % 2 ≡ 1 → ⊥) → None ≡ hit_for g x write
    unfolding hit_for
    hit_none h = rw (ne_eqb (x.key % 2) 1 h)

    module _ (h : x.key % 2 ≡ 1) {r : Option ℕ} where
      pub hit_030 : g.family ≡ 30 → r ≡ permits030 x.page write → r ≡ hit_for g x write
      unfolding hit_for
      hit_030 f e = rw (eq-eqb (x.key % 2) 1 h, eq-eqb g.family 30 f) e

      pub hit_040 : (g.family ≡ 30 → ⊥) → r ≡ permits040 x.page (odd (x.key / 2)) write → r ≡ hit_for g x write
      unfolding hit_for
      hit_040 f e = rw (eq-eqb (x.key % 2) 1 h, ne_eqb g.family 30 f) e

    pub access_is : {address code : ℕ} {supervisor : Bool} → address ≡ address_for g x → code ≡ code_for g x → supervisor ≡ bit_of code 2
        → plain_access supervisor (eqb (code % 4) 2) write address ≡ access_for g x write
    unfolding access_for
    access_is a c s = rw (s, a, c)

    module _ (n : ℕ) (answer : Translation) where
      pub told_refused : (n ≡ 0 → ⊥) → Finding.Refused n ≡ told_of g x write n answer
      unfolding told_of
      told_refused h = rw (ne_eqb n 0 h)

      pub told_says : n ≡ 0 → {address code : ℕ} {hit : Option ℕ} → address ≡ address_for g x → code ≡ code_for g x → hit ≡ hit_for g x write
          → Finding.Says address code hit answer ≡ told_of g x write n answer
      unfolding told_of
      told_says h a c k = rw (eq-eqb n 0 h, a, c, k)

-- ---- one entry
same_bool_lem : (b : Bool) → same_bool b b ≡ true
same_bool_lem true = refl
same_bool_lem false = refl

hit_slot : (k b : ℕ) (write : Bool) → (if odd k then permits040 b (odd (k / 2)) write else None) ≡ slot_hit (k / 4) (odd (k / 2)) write (slot_of k b)
hit_slot k b write = rw (eq-eqb (k / 4) (k / 4) refl, same_bool_lem (odd (k / 2))) (go (odd k) (write && odd (b / 2) || not (odd (k / 2)) && odd b))
  where
    go : (v f : Bool) → (if v then (if f then None else Some (b / 4)) else None) ≡ (if v && true && not f then Some (b / 4) else None)
    go true true = refl
    go true false = refl
    go false f = refl

module _ (g : Registers) (m : Memory) (c3 c4 : List ℕ) (i : ℕ) (write : Bool) where
  abbrev here : Cached
  here = cached_at g c3 c4 i

  abbrev walks : Translation
  walks = (cacheless (bare g) (access_for g here write) m).answer

  abbrev at : Bool → Cached
  at b =
      if b
      then record { key = get_or (tags_of c3) i 0; page = get_or (pages_of c3) i 0; shift = shift_in c3 }
      else record { key = get_or (keys_of c4) i 0; page = get_or (bases_of c4) i 0; shift = page_bits g.tc }

  abbrev address : Bool → ℕ
  address b = if b then wrapped_of ((at b).key / 16) (at b).shift else wrapped_of ((at b).key / 4) (at b).shift

  abbrev code : Bool → ℕ
  code b = if b then (at b).key / 2 % 8 else code_of (odd ((at b).key / 2)) false

  abbrev hit : Bool → Option ℕ
  hit b = if odd (at b).key then (if b then permits030 (at b).page write else permits040 (at b).page (odd ((at b).key / 2)) write) else None

  -- what stands at i, of the one cache or the other
  said_is : SizedAll c3 c4 → Finding.Says (address_for g here) (code_for g here) (hit_for g here write) walks ≡ finding_family g m (caches_of c3 c4) i write
  unfolding cached_at access_for address_for code_for hit_for cache_of cache040_of
  said_is z = go (eqb g.family 30)
    where
      go : (b : Bool)
          → Finding.Says (address b) (code b) (hit b) (cacheless (bare g) (plain_access (bit_of (code b) 2) (eqb (code b % 4) 2) write (address b)) m).answer
          ≡ (if b
          then finding030 g m (shift_in c3) (get_or (entries_of (tags_of c3) (pages_of c3) (stamps_of c3)) i no_entry) write
          else finding040 g m (get_or (slots_of (keys_of c4) (bases_of c4)) i no_slot) write)
      go true = rw (entries_get (tags_of c3) (pages_of c3) (stamps_of c3) i (level c3 z.sized))
      go false =
          rw (slots_get (keys_of c4) (bases_of c4) i (level_040 c4 z.sized040))
          (rw (hit_slot (get_or (keys_of c4) i 0) (get_or (bases_of c4) i 0) write))

  -- the whole call
  module _ {two : Bool} (is-two : two ≡ bad_base m) {three : Bool} (is-three : three ≡ bad_range m) {n : ℕ} (is-n : n ≡ audit_refusal g two three (cache_of c3))
      {x : Cached} (looked : LooksAt g c3 c4 i x) {a : Access} (is-a : a ≡ access_for g x write) {plain : Registers} (is_plain : plain ≡ bare g)
      {empty : Caches} (is-empty : empty ≡ empty_caches) {t : Translated} (walked : TranslatedBy (translate plain a m empty) t)
      {r : Finding} (is-r : r ≡ told_of g x write n t.answer) where
    answered : t.answer ≡ walks
    answered = walked.answers ∙ rw (is-empty, is_plain, is-a, looked.looks)

    pub tells : r ≡ finding g m (caches_of c3 c4) i write
    unfolding finding told_of audit_refusal
    tells =
        is-r ∙ rw (is-n, is-two, is-three, answered, looked.looks)
        (go (eqb (refusal_of (audit_checks g m (caches_of c3 c4))) 0))
      where
        go : (b : Bool) → (if b then Finding.Says (address_for g here) (code_for g here) (hit_for g here write) walks else Finding.Refused (refusal_of (audit_checks g m (caches_of c3 c4))))
            ≡ (if b then finding_family g m (caches_of c3 c4) i write else Finding.Refused (refusal_of (audit_checks g m (caches_of c3 c4))))
        go true = said_is looked.sized
        go false = refl
