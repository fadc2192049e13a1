-- A pair by value is settled by the caches that it is: two pairs that are the same caches are the same pair.
use Prim.Native.Nat.{ℕ, ◌+◌}
use mathlib.Core.Path.{◌≡◌, ap, sym, ◌∙◌}
use mathlib.Core.List.{List, [], ◌∷◌, ◌++◌}
use native.Mathlib.Omega.{arith}
use lib.ListN.{length, drop, take-append-drop, drop_of_length-le}
use lib.Seq.{drop-drop, drop-cons}
use Rattle.definition.specs.Cache030.{Cache030}
use Rattle.definition.specs.Cache040.{Cache040}
use Rattle.definition.specs.Translate.{Caches}
use Rattle.cache.specs.declared.CachePair.{CachePair}
use Rattle.cache.specs.Packed.{part}
use Rattle.cache.specs.Atc030.{recent_in, clock_in, shift_in, entries_of, tags_of, pages_of, stamps_of, cache_of}
use Rattle.cache.specs.Atc040.{slots_of, keys_of, bases_of, cache040_of}
use Rattle.cache.specs.Pair.{pair_of, SizedPair}
use Rattle.cache.proofs.Entries.{entries_read}
use Rattle.cache.proofs.Laws030.{level}
use Rattle.cache.proofs.Slots.{slots_read, level_040}

-- an array is its parts, one after the other
next : (o n : ℕ) (l : List ℕ) → drop o l ≡ part o n l ++ drop (o + n) l
unfolding part
next o n l = rw (← drop-drop n o l) (sym (take-append-drop n (drop o l)))

joined_030 : (l : List ℕ) → length l ≡ 69 → l ≡ tags_of l ++ (pages_of l ++ (stamps_of l ++ (recent_in l ∷ clock_in l ∷ shift_in l ∷ [])))
joined_030 l e =
    next 0 22 l ∙ rw (next 22 22 l, next 44 22 l, drop-cons l 66 0 (omega arith), drop-cons l 67 0 (omega arith), drop-cons l 68 0 (omega arith), drop_of_length-le l {i = 69} (omega arith))

joined_040 : (l : List ℕ) → length l ≡ 128 → l ≡ keys_of l ++ (bases_of l ++ [])
joined_040 l e = next 0 64 l ∙ rw (next 64 64 l, drop_of_length-le l {i = 128} (omega arith))

module _ (l l' : List ℕ) where
  same_030 : length l ≡ 69 → length l' ≡ 69 → cache_of l ≡ cache_of l' → l ≡ l'
  unfolding cache_of
  same_030 w v h =
      let r = entries_read (tags_of l) (pages_of l) (stamps_of l) (level l w) in
      let q = entries_read (tags_of l') (pages_of l') (stamps_of l') (level l' v) in
      let e : entries_of (tags_of l) (pages_of l) (stamps_of l) ≡ entries_of (tags_of l') (pages_of l') (stamps_of l') = ap (λ (c : Cache030). c.entries) h in
      let t : tags_of l ≡ tags_of l' = cc in
      let p : pages_of l ≡ pages_of l' = cc in
      let s : stamps_of l ≡ stamps_of l' = cc in
      let a : recent_in l ≡ recent_in l' = ap (λ (c : Cache030). c.recent) h in
      let b : clock_in l ≡ clock_in l' = ap (λ (c : Cache030). c.clock) h in
      let d : shift_in l ≡ shift_in l' = ap (λ (c : Cache030). c.shift) h in
      joined_030 l w ∙ rw (t, p, s, a, b, d) (sym (joined_030 l' v))

  same_040 : length l ≡ 128 → length l' ≡ 128 → cache040_of l ≡ cache040_of l' → l ≡ l'
  unfolding cache040_of
  same_040 w v h =
      let r = slots_read (keys_of l) (bases_of l) (level_040 l w) in
      let q = slots_read (keys_of l') (bases_of l') (level_040 l' v) in
      let e : slots_of (keys_of l) (bases_of l) ≡ slots_of (keys_of l') (bases_of l') = ap (λ (c : Cache040). c.slots) h in
      let k : keys_of l ≡ keys_of l' = cc in
      let b : bases_of l ≡ bases_of l' = cc in
      joined_040 l w ∙ rw (k, b) (sym (joined_040 l' v))

pub pair_same : (p q : CachePair) → SizedPair p → SizedPair q → pair_of p ≡ pair_of q → p ≡ q
pair_same p q w v h =
    go (same_030 p.c030 q.c030 w.sized v.sized (ap (λ (c : Caches). c.c030) h)) (same_040 p.c040 q.c040 w.sized040 v.sized040 (ap (λ (c : Caches). c.c040) h))
  where
    pair : List ℕ → List ℕ → CachePair
    pair a b = record { c030 = a; c040 = b }

    go : p.c030 ≡ q.c030 → p.c040 ≡ q.c040 → pair p.c030 p.c040 ≡ pair q.c030 q.c040
    go a b = cc
