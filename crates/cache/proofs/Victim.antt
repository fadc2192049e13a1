-- The place that an insert takes: what the loop has seen after i entries, by one law for each way through a turn, and what follows at the end.
use Rattle.std.specs.Prelude.{Option, Some, None, MatchOption, is_some, unwrap_or}
use Rattle.std.proofs.lemmas.Bool.{false≢true}
use Prim.Native.Nat.{ℕ, ◌+◌, ◌≤◌, ◌<◌}
use mathlib.Core.Path.{◌≡◌, refl, sym}
use mathlib.Core.Bool.{true, false, not}
use mathlib.Core.List.{List}
use native.Mathlib.Omega.{arith}
use borrow.Author.Count.{below_none}
use borrow.Author.Tests.{lt-ltb}
use lib.Dec.{eqb}
use lib.ListN.{length, get_or}
use Rattle.cache.specs.Packed.{odd}
use Rattle.cache.specs.Atc030.{least_of, place_of}
use Rattle.cache.proofs.Lists.{first_is, first_past, first_none, Least, least_start, least_new, least_keep, least_is}

module _ (ts ss : List ℕ) (key : ℕ) where
  abbrev Valid : ℕ → Type 0
  Valid k = not (odd (get_or ts k 0)) ≡ false

  -- none of the first i entries has the key; the first invalid of them is v, and where there is none
  -- x is their smallest stamp, and stands at b first
  pub record Seen (i : ℕ) (v : Option ℕ) (b x : ℕ) : Type 0 where
    pub others : (k : ℕ) → k < i → eqb key (get_or ts k 0) ≡ false
    pub invalid : MatchOption v (((k : ℕ) → k < i → Valid k) × Least ss i b x) (λ n. (n < 22) × (not (odd (get_or ts n 0)) ≡ true) × ((k : ℕ) → k < n → Valid k))
    pub within : b < 22

  pub seen_start : (x : ℕ) → x ≡ get_or ss 0 0 → Seen 0 None 0 x
  seen_start x a = record { others = below_none _; invalid = (below_none _, least_start ss x a); within = omega arith }

  -- entry i, which has another key
  module _ (i b x t : ℕ) (h : i < 22) (a : t ≡ get_or ts i 0) (o : eqb key t ≡ false) where
    others_next : {v : Option ℕ} → Seen i v b x → (k : ℕ) → k < i + 1 → eqb key (get_or ts k 0) ≡ false
    others_next s = first_past (eqb key) ts i t a o s.others

    pub first_invalid : (v : Option ℕ) → is_some v ≡ false → not (odd t) ≡ true → Seen i v b x → Seen (i + 1) (Some i) b x
    first_invalid None q e s = record { others = others_next s; invalid = (h, rw a at e, s.invalid.0); within = s.within }
    first_invalid (Some n) q e s = absurd (false≢true (sym q))

    pub later_invalid : (v : Option ℕ) → is_some v ≡ true → Seen i v b x → Seen (i + 1) v b x
    later_invalid None q s = absurd (false≢true q)
    later_invalid (Some n) q s = record { others = others_next s; invalid = s.invalid; within = s.within }

    -- a valid one: its stamp decides, where none before is invalid
    pub valid_older : (v : Option ℕ) (y : ℕ) → not (odd t) ≡ false → y ≡ get_or ss i 0 → y < x → Seen i v b x → Seen (i + 1) v i y
    valid_older None y e d l s =
        record {
          others = others_next s;
          invalid = (first_past (λ (t : ℕ). not (odd t)) ts i t a e s.invalid.0, least_new ss i b x y d l s.invalid.1);
          within = h;
        }
    valid_older (Some n) y e d l s = record { others = others_next s; invalid = s.invalid; within = h }

    pub valid_kept : (v : Option ℕ) (y : ℕ) → not (odd t) ≡ false → y ≡ get_or ss i 0 → x ≤ y → Seen i v b x → Seen (i + 1) v b x
    valid_kept None y e d l s =
        record {
          others = others_next s;
          invalid = (first_past (λ (t : ℕ). not (odd t)) ts i t a e s.invalid.0, least_keep ss i b x y d l s.invalid.1);
          within = s.within;
        }
    valid_kept (Some n) y e d l s = record { others = others_next s; invalid = s.invalid; within = s.within }

  -- an entry has the key
  pub same_place : length ts ≡ 22 → (i t : ℕ) → i < 22 → t ≡ get_or ts i 0 → eqb key t ≡ true → ((k : ℕ) → k < i → eqb key (get_or ts k 0) ≡ false) → i ≡ place_of ts ss key
  unfolding place_of
  same_place w i t h a e s = rw (← first_is (eqb key) ts 22 i t w h a e s, lt-ltb i 22 h)

  -- no entry has the key
  pub last_place : length ts ≡ 22 → length ss ≡ 22 → (v : Option ℕ) (b x : ℕ) → Seen 22 v b x → unwrap_or v b ≡ place_of ts ss key
  unfolding place_of least_of
  last_place w w' (Some n) b x s =
      rw (
        ← first_none (eqb key) ts 22 22 w (omega arith) s.others,
        ← first_is (λ (t : ℕ). not (odd t)) ts 22 n (get_or ts n 0) w s.invalid.0 refl s.invalid.1 s.invalid.2,
        lt-ltb n 22 s.invalid.0,
      )
  last_place w w' None b x s =
      rw (
        ← first_none (eqb key) ts 22 22 w (omega arith) s.others,
        ← first_none (λ (t : ℕ). not (odd t)) ts 22 22 w (omega arith) s.invalid.0,
      )
      (least_is ss 22 b x w' s.within s.invalid.1)

  pub last_within : (v : Option ℕ) (b x : ℕ) → Seen 22 v b x → unwrap_or v b < 22
  last_within (Some n) b x s = s.invalid.0
  last_within None b x s = s.within
