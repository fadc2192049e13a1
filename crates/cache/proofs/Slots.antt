-- The definitions of the 68040's cache, at the cache that an array is.
use Rattle.std.specs.Prelude.{if◌then◌else◌, Option, Some, None}
use Prim.Native.Nat.{ℕ, zero, suc, ◌+◌, ◌*◌, ◌-◌, ◌/◌, ◌%◌, ◌<◌}
use mathlib.Core.Path.{◌≡◌, refl, ap, sym, ◌∙◌}
use mathlib.Core.Bool.{Bool, true, false, ◌&&◌, ◌||◌, not}
use mathlib.Core.List.{List, [], ◌∷◌, map}
use native.Mathlib.Omega.{arith}
use borrow.Author.Tests.{eq-eqb, ne_eqb, eqb-true, eqb-false}
use lib.Dec.{eqb}
use lib.ListN.{length, get_or, set}
use lib.Seq.{set-get_or}
use Rattle.definition.specs.Cache040.{Slot, Cache040, no_slot, same_bool, holds, hit040, inserted040, emptied, flushed_all040, flushed_frame}
use Rattle.cache.specs.Packed.{bit, odd}
use Rattle.cache.specs.Atc040.{slot_of, slots_of, keys_of, bases_of, cache040_of, key_of040, Parts040, Stepped040}
use Rattle.cache.proofs.Parts.{part_length, part_get, parts_040, put_key, put_base}
use Rattle.cache.proofs.Flags.{bit_small, odd_is, low_bit, odd_bit}

-- ---- one slot
-- a key is a valid slot's just where it is this number
key_holds : (frame : ℕ) (supervisor : Bool) (k b : ℕ) → holds frame supervisor (slot_of k b) ≡ eqb k (key_of040 frame supervisor)
key_holds frame supervisor k b = go (odd k) (eqb (k / 4) frame) (odd (k / 2)) supervisor refl refl refl
  where
    go : (v f s z : Bool) → odd k ≡ v → eqb (k / 4) frame ≡ f → odd (k / 2) ≡ s → v && (f && same_bool s z) ≡ eqb k (key_of040 frame z)
    go true true true true ev ef es =
        sym (eq-eqb k (key_of040 frame true) (omega (arith, odd_bit true k ev, eqb-true (k / 4) frame ef, odd_bit true (k / 2) es)))
    go true true false false ev ef es =
        sym (eq-eqb k (key_of040 frame false) (omega (arith, odd_bit true k ev, eqb-true (k / 4) frame ef, odd_bit false (k / 2) es)))
    go true true true false ev ef es = sym (ne_eqb k (key_of040 frame false) (λ e. omega (arith, odd_bit true (k / 2) es)))
    go true true false true ev ef es = sym (ne_eqb k (key_of040 frame true) (λ e. omega (arith, odd_bit false (k / 2) es)))
    go true false s z ev ef es = sym (ne_eqb k (key_of040 frame z) (λ e. eqb-false (k / 4) frame ef (omega (arith, bit_small z))))
    go false f s z ev ef es = sym (ne_eqb k (key_of040 frame z) (λ e. omega (arith, odd_bit false k ev)))

-- the slot that an insert makes
key_slot : (frame base : ℕ) (supervisor wp sup : Bool)
    → slot_of (key_of040 frame supervisor) (base * 4 + bit wp * 2 + bit sup) ≡ record { valid = true; frame = frame; supervisor = supervisor; base = base; wp = wp; sup = sup }
key_slot frame base supervisor wp sup =
    let x = bit_small supervisor in
    let y = bit_small wp in
    let z = bit_small sup in
    let k = key_of040 frame supervisor in
    let w = base * 4 + bit wp * 2 + bit sup in
    let a : odd k ≡ true = odd_is true k (omega arith) in
    let b : k / 4 ≡ frame = omega arith in
    let d : odd (k / 2) ≡ supervisor = odd_is supervisor (k / 2) (omega arith) in
    let e : w / 4 ≡ base = omega arith in
    let f : odd (w / 2) ≡ wp = odd_is wp (w / 2) (omega arith) in
    let g : odd w ≡ sup = odd_is sup w (omega arith) in
    rw (a, b, d, e, f, g)

drop_key : (k b : ℕ) → slot_of (k - k % 2) b ≡ emptied (slot_of k b)
drop_key k b =
    let a : odd (k - k % 2) ≡ false = odd_is false (k - k % 2) (omega arith) in
    let d : (k - k % 2) / 4 ≡ k / 4 = omega arith in
    let e : (k - k % 2) / 2 ≡ k / 2 = omega arith in
    rw (a, d, e)

-- ---- the slots
pub slots_get : (ks bs : List ℕ) (i : ℕ) → length ks ≡ length bs → get_or (slots_of ks bs) i no_slot ≡ slot_of (get_or ks i 0) (get_or bs i 0)
unfolding slots_of
slots_get [] [] i e = refl
slots_get [] (b ∷ bs) i e = absurd (omega arith)
slots_get (k ∷ ks) [] i e = absurd (omega arith)
slots_get (k ∷ ks) (b ∷ bs) zero e = refl
slots_get (k ∷ ks) (b ∷ bs) (suc i) e = slots_get ks bs i (omega arith)

slots_set : (ks bs : List ℕ) (i k b : ℕ) → slots_of (set ks i k) (set bs i b) ≡ set (slots_of ks bs) i (slot_of k b)
unfolding slots_of
slots_set [] bs i x y = refl
slots_set (k ∷ ks) [] zero x y = refl
slots_set (k ∷ ks) [] (suc i) x y = refl
slots_set (k ∷ ks) (b ∷ bs) zero x y = refl
slots_set (k ∷ ks) (b ∷ bs) (suc i) x y = ap (λ (l : List Slot). slot_of k b ∷ l) (slots_set ks bs i x y)

slots_keys : (ks bs : List ℕ) → slots_of (map (λ (k : ℕ). k - k % 2) ks) bs ≡ map emptied (slots_of ks bs)
unfolding slots_of
slots_keys [] bs = refl
slots_keys (k ∷ ks) [] = refl
slots_keys (k ∷ ks) (b ∷ bs) = rw (drop_key k b, slots_keys ks bs)

-- ---- the arrays are read off the slots again
abbrev pub key_in : Slot → ℕ
key_in s = s.frame * 4 + bit s.supervisor * 2 + bit s.valid

abbrev pub base_in : Slot → ℕ
base_in s = s.base * 4 + bit s.wp * 2 + bit s.sup

pub slots_read : (ks bs : List ℕ) → length ks ≡ length bs → (map key_in (slots_of ks bs) ≡ ks) × (map base_in (slots_of ks bs) ≡ bs)
unfolding slots_of
slots_read [] [] e = (refl, refl)
slots_read [] (b ∷ bs) e = absurd (omega arith)
slots_read (k ∷ ks) [] e = absurd (omega arith)
slots_read (k ∷ ks) (b ∷ bs) e =
    let r = slots_read ks bs (omega arith) in
    let x : key_in (slot_of k b) ≡ k = omega (arith, low_bit k, low_bit (k / 2)) in
    let y : base_in (slot_of k b) ≡ b = omega (arith, low_bit b, low_bit (b / 2)) in
    (rw (x, r.0), rw (y, r.1))

-- ---- the definitions
-- the cache that the parts are
cache_is : {l ks bs : List ℕ} → Parts040 l ks bs → cache040_of l ≡ record { slots = slots_of ks bs }
unfolding cache040_of
cache_is p = rw (p.keys, p.bases) refl

module _ (l : List ℕ) (w : length l ≡ 128) where
  abbrev ks : List ℕ
  ks = keys_of l

  abbrev bs : List ℕ
  bs = bases_of l

  pub level_040 : length ks ≡ length bs
  level_040 = part_length 0 64 l (omega arith) ∙ sym (part_length 64 64 l (omega arith))

  module _ (frame i : ℕ) (ei : i ≡ frame % 64) where
    h : i < 64
    h = omega arith

    slot_at : get_or (slots_of ks bs) i no_slot ≡ slot_of (get_or l i 0) (get_or l (64 + i) 0)
    slot_at =
        rw (part_get 0 64 l i i (omega arith) h, part_get 64 64 l i (64 + i) refl h)
        (slots_get ks bs i level_040)

    pub missed_040 : (supervisor write : Bool) → (get_or l i 0 ≡ key_of040 frame supervisor → ⊥) → None ≡ hit040 (cache040_of l) frame supervisor write
    unfolding hit040 cache040_of
    missed_040 supervisor write n =
        rw (← ei, slot_at, key_holds frame supervisor (get_or l i 0) (get_or l (64 + i) 0), ne_eqb (get_or l i 0) (key_of040 frame supervisor) n)

    pub looked_040 : (supervisor write : Bool) (r : Option ℕ) → get_or l i 0 ≡ key_of040 frame supervisor
        → r ≡ (if write && odd (get_or l (64 + i) 0 / 2) || not supervisor && odd (get_or l (64 + i) 0) then None else Some (get_or l (64 + i) 0 / 4))
        → r ≡ hit040 (cache040_of l) frame supervisor write
    unfolding hit040 cache040_of
    looked_040 supervisor write r e h =
        rw (← ei, slot_at, key_holds frame supervisor (get_or l i 0) (get_or l (64 + i) 0), eq-eqb (get_or l i 0) (key_of040 frame supervisor) e)
        (h ∙ go (write && odd (get_or l (64 + i) 0 / 2) || not supervisor && odd (get_or l (64 + i) 0)))
      where
        go : (b : Bool) → (if b then None else Some (get_or l (64 + i) 0 / 4)) ≡ (if not b then Some (get_or l (64 + i) 0 / 4) else None)
        go true = refl
        go false = refl

    pub inserted_put_040 : (base k x y : ℕ) (supervisor wp sup : Bool) → k ≡ key_of040 frame supervisor → x ≡ bit wp → y ≡ bit sup
        → Stepped040 (λ (c : Cache040). inserted040 c frame supervisor base wp sup) l (set (set l i k) (64 + i) (base * 4 + x * 2 + y))
    unfolding inserted040 cache040_of
    inserted_put_040 base k x y supervisor wp sup ek ex ey =
        let q = put_base (put_key (parts_040 l w) i k h) i (base * 4 + x * 2 + y) h in
        record {
          leaves =
              cache_is q ∙ rw (ek, ex, ey, slots_set ks bs i (key_of040 frame supervisor) (base * 4 + bit wp * 2 + bit sup), key_slot frame base supervisor wp sup, ei) refl;
          sized = q.size;
        }

    pub flushed_same_040 : (get_or l i 0 / 4 ≡ frame → ⊥) → Stepped040 (λ (c : Cache040). flushed_frame c frame) l l
    unfolding flushed_frame cache040_of
    flushed_same_040 n = record { leaves = rw (← ei, slot_at, ne_eqb (get_or l i 0 / 4) frame n) refl; sized = w }

    pub flushed_frame_lem : get_or l i 0 / 4 ≡ frame → Stepped040 (λ (c : Cache040). flushed_frame c frame) l (set l i (get_or l i 0 - get_or l i 0 % 2))
    unfolding flushed_frame cache040_of
    flushed_frame_lem e =
        let k = get_or l i 0 - get_or l i 0 % 2 in
        let q = put_key (parts_040 l w) i k h in
        let s = slots_set ks bs i k (get_or bs i 0) in
        record {
          leaves =
              rw (← ei, slot_at, eq-eqb (get_or l i 0 / 4) frame e, ← drop_key (get_or l i 0) (get_or l (64 + i) 0))
              (cache_is q ∙ ap (λ (l : List Slot). record { slots = l }) (rw (set-get_or bs i 0, ← part_get 64 64 l i (64 + i) refl h) at s));
          sized = q.size;
        }

  pub flushed_all_040 : (l' : List ℕ) → Parts040 l' (map (λ (k : ℕ). k - k % 2) ks) bs → Stepped040 flushed_all040 l l'
  unfolding flushed_all040 cache040_of
  flushed_all_040 l' q = record { leaves = cache_is q ∙ rw (slots_keys ks bs) refl; sized = q.size }
