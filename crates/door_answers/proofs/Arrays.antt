-- The packing is one to one: an array is settled by the cache that it is, whatever numbers it holds. Assumes nothing.
use Prim.Native.Nat.{ℕ}
use mathlib.Core.Path.{◌≡◌, refl, ap}
use mathlib.Core.List.{List}
use lib.ListN.{length, replicate}
use Rattle.definition.specs.Cache030.{Cache030}
use Rattle.definition.specs.Cache040.{Cache040}
use Rattle.cache.specs.Atc030.{cache_of}
use Rattle.cache.specs.Atc040.{cache040_of}
use Rattle.cache.specs.Pair.{pair_with, caches_of, SizedAll}
use Rattle.cache.specs.declared.CachePair.{CachePair}
use Rattle.cache.proofs.Pairs.{pair_same}

-- arrays as a pair
abbrev pair : List ℕ → List ℕ → CachePair
pair x y = record { c030 = x; c040 = y }

-- of both arrays
pub same_arrays : {x x' y y' : List ℕ} → SizedAll x y → SizedAll x' y' → caches_of x y ≡ caches_of x' y' → (x ≡ x') × (y ≡ y')
same_arrays {x} {x'} {y} {y'} w v e =
    let p = pair_same (pair x y) (pair x' y') w v e in
    (ap (λ (q : CachePair). q.c030) p, ap (λ (q : CachePair). q.c040) p)

-- of the 68030's 69 numbers
pub same_030 : {x x' : List ℕ} → length x ≡ 69 → length x' ≡ 69 → cache_of x ≡ cache_of x' → x ≡ x'
same_030 {x} {x'} w v e =
    let zeros : List ℕ = replicate 128 0 in
    (same_arrays {x = x} {x' = x'} {y = zeros} {y' = zeros} (record { sized = w; sized040 = refl }) (record { sized = v; sized040 = refl })
    (ap (λ (c : Cache030). pair_with c (cache040_of zeros)) e)).0

-- of the 68040's 128
pub same_040 : {y y' : List ℕ} → length y ≡ 128 → length y' ≡ 128 → cache040_of y ≡ cache040_of y' → y ≡ y'
same_040 {y} {y'} w v e =
    let zeros : List ℕ = replicate 69 0 in
    (same_arrays {x = zeros} {x' = zeros} {y = y} {y' = y'} (record { sized = refl; sized040 = w }) (record { sized = refl; sized040 = v })
    (ap (λ (k : Cache040). pair_with (cache_of zeros) k) e)).1
