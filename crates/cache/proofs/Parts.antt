-- Laws of the parts of an array: what a read or a write at a place of the whole is in each part.
use Prim.Native.Nat.{ℕ, ◌+◌, ◌-◌, ◌<◌, ◌≤◌}
use mathlib.Core.Path.{◌≡◌, refl, ap, sym, ◌∙◌}
use mathlib.Core.List.{List, ◌++◌, map}
use native.Mathlib.Omega.{arith}
use lib.ListN.{length, get_or, set, take, drop, length-drop, length-set}
use Rattle.std.proofs.Math.Seq.{take-append_seam}
use Rattle.std.proofs.lemmas.List.{length-append, get_or-append_right}
use Rattle.std.proofs.lemmas.Slice.{drop-append-drop}
use lib.Seq.{length-take-le, take-set-le, take-set-lt, drop-set-lt, drop-set-add, get_or-take, get_or-drop, get_or-set_same, get_or-set_other}
use Rattle.cache.specs.Packed.{part}
use Rattle.cache.specs.Atc030.{recent_in, clock_in, shift_in, tags_of, pages_of, stamps_of, Parts}
use Rattle.cache.specs.Atc040.{keys_of, bases_of, Parts040}
use Rattle.cache.proofs.Lists.{map_to, map_to_put, map_to_next, map_to_all}

module _ (o n : ℕ) (l : List ℕ) where
  pub part_length : o + n ≤ length l → length (part o n l) ≡ n
  unfolding part
  part_length h = length-take-le n (drop o l) (rw (length-drop o l) (omega arith))

  pub part_get : (i k : ℕ) → k ≡ o + i → i < n → get_or l k 0 ≡ get_or (part o n l) i 0
  unfolding part
  part_get i k e h = rw e (sym (get_or-take n (drop o l) i 0 h ∙ get_or-drop o l i 0))

  -- a write in the part, below it, and above it
  pub part_set : (i k v : ℕ) → k ≡ o + i → i < n → part o n (set l k v) ≡ set (part o n l) i v
  unfolding part
  part_set i k v e h = rw (e, drop-set-add o l i v) (take-set-lt n (drop o l) i v h)

  pub part_below : (k v : ℕ) → k < o → part o n (set l k v) ≡ part o n l
  unfolding part
  part_below k v h = rw (drop-set-lt o l k v h)

  pub part_above : (i k v : ℕ) → k ≡ o + i → n ≤ i → part o n (set l k v) ≡ part o n l
  unfolding part
  part_above i k v e h = rw (e, drop-set-add o l i v) (take-set-le n (drop o l) i v h)

-- ---- the 68030's array
pub tag_get : (l : List ℕ) (i : ℕ) → i < 22 → get_or l i 0 ≡ get_or (tags_of l) i 0
tag_get l i h = part_get 0 22 l i i (omega arith) h

pub stamp_get : (l : List ℕ) (i : ℕ) → i < 22 → get_or l (44 + i) 0 ≡ get_or (stamps_of l) i 0
stamp_get l i h = part_get 44 22 l i (44 + i) refl h

pub tags_22 : (l : List ℕ) → length l ≡ 69 → length (tags_of l) ≡ 22
tags_22 l e = part_length 0 22 l (omega arith)

pub stamps_22 : (l : List ℕ) → length l ≡ 69 → length (stamps_of l) ≡ 22
stamps_22 l e = part_length 44 22 l (omega arith)

pub parts_of : (l : List ℕ) → length l ≡ 69 → Parts l (tags_of l) (pages_of l) (stamps_of l) (recent_in l) (clock_in l) (shift_in l)
parts_of l e = record { size = e; tags = refl; pages = refl; stamps = refl; recent = refl; clock = refl; shift = refl }

module _ {l ts ps ss : List ℕ} {r k s : ℕ} (p : Parts l ts ps ss r k s) where
  pub put_tag : (i v : ℕ) → i < 22 → Parts (set l i v) (set ts i v) ps ss r k s
  put_tag i v h =
      record {
        size = length-set l i v ∙ p.size;
        tags = part_set 0 22 l i i v (omega arith) h ∙ rw p.tags;
        pages = part_below 22 22 l i v h ∙ p.pages;
        stamps = part_below 44 22 l i v (omega arith) ∙ p.stamps;
        recent = get_or-set_other l i 66 v 0 (λ e. omega arith) ∙ p.recent;
        clock = get_or-set_other l i 67 v 0 (λ e. omega arith) ∙ p.clock;
        shift = get_or-set_other l i 68 v 0 (λ e. omega arith) ∙ p.shift;
      }

  pub put_page : (i v : ℕ) → i < 22 → Parts (set l (22 + i) v) ts (set ps i v) ss r k s
  put_page i v h =
      record {
        size = length-set l (22 + i) v ∙ p.size;
        tags = part_above 0 22 l (22 + i) (22 + i) v (omega arith) (omega arith) ∙ p.tags;
        pages = part_set 22 22 l i (22 + i) v refl h ∙ rw p.pages;
        stamps = part_below 44 22 l (22 + i) v (omega arith) ∙ p.stamps;
        recent = get_or-set_other l (22 + i) 66 v 0 (λ e. omega arith) ∙ p.recent;
        clock = get_or-set_other l (22 + i) 67 v 0 (λ e. omega arith) ∙ p.clock;
        shift = get_or-set_other l (22 + i) 68 v 0 (λ e. omega arith) ∙ p.shift;
      }

  pub put_stamp : (i v : ℕ) → i < 22 → Parts (set l (44 + i) v) ts ps (set ss i v) r k s
  put_stamp i v h =
      record {
        size = length-set l (44 + i) v ∙ p.size;
        tags = part_above 0 22 l (44 + i) (44 + i) v (omega arith) (omega arith) ∙ p.tags;
        pages = part_above 22 22 l (22 + i) (44 + i) v (omega arith) (omega arith) ∙ p.pages;
        stamps = part_set 44 22 l i (44 + i) v refl h ∙ rw p.stamps;
        recent = get_or-set_other l (44 + i) 66 v 0 (λ e. omega arith) ∙ p.recent;
        clock = get_or-set_other l (44 + i) 67 v 0 (λ e. omega arith) ∙ p.clock;
        shift = get_or-set_other l (44 + i) 68 v 0 (λ e. omega arith) ∙ p.shift;
      }

  -- the three numbers at the end
  tags_kept : (j v : ℕ) → 66 ≤ j → tags_of (set l j v) ≡ ts
  tags_kept j v h = part_above 0 22 l j j v (omega arith) (omega arith) ∙ p.tags

  pages_kept : (j v : ℕ) → 66 ≤ j → pages_of (set l j v) ≡ ps
  pages_kept j v h = part_above 22 22 l (j - 22) j v (omega arith) (omega arith) ∙ p.pages

  stamps_kept : (j v : ℕ) → 66 ≤ j → stamps_of (set l j v) ≡ ss
  stamps_kept j v h = part_above 44 22 l (j - 44) j v (omega arith) (omega arith) ∙ p.stamps

  pub put_recent : (v : ℕ) → Parts (set l 66 v) ts ps ss v k s
  put_recent v =
      record {
        size = length-set l 66 v ∙ p.size;
        tags = tags_kept 66 v (omega arith);
        pages = pages_kept 66 v (omega arith);
        stamps = stamps_kept 66 v (omega arith);
        recent = get_or-set_same l 66 v 0 (omega (arith, p.size));
        clock = get_or-set_other l 66 67 v 0 (λ e. omega arith) ∙ p.clock;
        shift = get_or-set_other l 66 68 v 0 (λ e. omega arith) ∙ p.shift;
      }

  pub put_clock : (v : ℕ) → Parts (set l 67 v) ts ps ss r v s
  put_clock v =
      record {
        size = length-set l 67 v ∙ p.size;
        tags = tags_kept 67 v (omega arith);
        pages = pages_kept 67 v (omega arith);
        stamps = stamps_kept 67 v (omega arith);
        recent = get_or-set_other l 67 66 v 0 (λ e. omega arith) ∙ p.recent;
        clock = get_or-set_same l 67 v 0 (omega (arith, p.size));
        shift = get_or-set_other l 67 68 v 0 (λ e. omega arith) ∙ p.shift;
      }

  pub put_shift : (v : ℕ) → Parts (set l 68 v) ts ps ss r k v
  put_shift v =
      record {
        size = length-set l 68 v ∙ p.size;
        tags = tags_kept 68 v (omega arith);
        pages = pages_kept 68 v (omega arith);
        stamps = stamps_kept 68 v (omega arith);
        recent = get_or-set_other l 68 66 v 0 (λ e. omega arith) ∙ p.recent;
        clock = get_or-set_other l 68 67 v 0 (λ e. omega arith) ∙ p.clock;
        shift = get_or-set_same l 68 v 0 (omega (arith, p.size));
      }

-- a loop that puts f of each of the first n numbers in its place: a turn, and the end
module _ (f : ℕ → ℕ) (n : ℕ) (l : List ℕ) where
  pub next_first : (xs : List ℕ) (i v : ℕ) → xs ≡ map_to f i (part 0 n l) → v ≡ f (get_or xs i 0) → set xs i v ≡ map_to f (i + 1) (part 0 n l)
  next_first xs i v e h = map_to_put f (part 0 n l) xs i v e h

  pub all_first : (xs : List ℕ) (i : ℕ) → i ≡ length (take n l) → xs ≡ map_to f i (part 0 n l) → xs ≡ map f (part 0 n l)
  unfolding part
  all_first xs i h e = e ∙ map_to_all f (take n l) i i (sym h) refl

-- the tags are others, and all behind them is as it was
pub tags_put : (l ts : List ℕ) → length l ≡ 69 → length ts ≡ 22 → Parts (ts ++ drop 22 l) ts (pages_of l) (stamps_of l) (recent_in l) (clock_in l) (shift_in l)
unfolding part
tags_put l ts e n =
    record {
      size = omega (arith, length-append ts (drop 22 l), length-drop 22 l);
      tags = rw n at (take-append_seam ts (drop 22 l));
      pages = ap (take 22) (drop-append-drop 22 l ts 22 (omega arith) n);
      stamps = ap (take 22) (drop-append-drop 22 l ts 44 (omega arith) n);
      recent = get_or-append_right ts (drop 22 l) 22 66 0 n (omega arith) ∙ get_or-drop 22 l 44 0;
      clock = get_or-append_right ts (drop 22 l) 22 67 0 n (omega arith) ∙ get_or-drop 22 l 45 0;
      shift = get_or-append_right ts (drop 22 l) 22 68 0 n (omega arith) ∙ get_or-drop 22 l 46 0;
    }

-- a loop that puts f of each stamp of l₀ in its place: a turn, and the end
module _ (f : ℕ → ℕ) (l₀ l ts ps : List ℕ) (r k s i : ℕ) where
  pub next_stamp : (v : ℕ) → i < 22 → Parts l ts ps (map_to f i (stamps_of l₀)) r k s → v ≡ f (get_or l₀ (44 + i) 0) → Parts (set l (44 + i) v) ts ps (map_to f (i + 1) (stamps_of l₀)) r k s
  next_stamp v h p e =
      let g : v ≡ f (get_or (map_to f i (stamps_of l₀)) i 0) = e ∙ ap f (stamp_get l₀ i h ∙ sym (map_to_next f (stamps_of l₀) i)) in
      rw (← map_to_put f (stamps_of l₀) (map_to f i (stamps_of l₀)) i v refl g) (put_stamp p i v h)

  pub all_stamps : length l₀ ≡ 69 → i ≡ 22 → Parts l ts ps (map_to f i (stamps_of l₀)) r k s → Parts l ts ps (map f (stamps_of l₀)) r k s
  all_stamps e h p = rw (← map_to_all f (stamps_of l₀) 22 i (stamps_22 l₀ e) h) p

-- ---- the 68040's array
pub parts_040 : (l : List ℕ) → length l ≡ 128 → Parts040 l (keys_of l) (bases_of l)
parts_040 l e = record { size = e; keys = refl; bases = refl }

module _ {l ks bs : List ℕ} (p : Parts040 l ks bs) where
  pub put_key : (i v : ℕ) → i < 64 → Parts040 (set l i v) (set ks i v) bs
  put_key i v h =
      record {
        size = length-set l i v ∙ p.size;
        keys = part_set 0 64 l i i v (omega arith) h ∙ rw p.keys;
        bases = part_below 64 64 l i v h ∙ p.bases;
      }

  pub put_base : (i v : ℕ) → i < 64 → Parts040 (set l (64 + i) v) ks (set bs i v)
  put_base i v h =
      record {
        size = length-set l (64 + i) v ∙ p.size;
        keys = part_above 0 64 l (64 + i) (64 + i) v (omega arith) (omega arith) ∙ p.keys;
        bases = part_set 64 64 l i (64 + i) v refl h ∙ rw p.bases;
      }

-- the keys are others
pub keys_put : (l ks : List ℕ) → length l ≡ 128 → length ks ≡ 64 → Parts040 (ks ++ drop 64 l) ks (bases_of l)
unfolding part
keys_put l ks e n =
    record {
      size = omega (arith, length-append ks (drop 64 l), length-drop 64 l);
      keys = rw n at (take-append_seam ks (drop 64 l));
      bases = ap (take 64) (drop-append-drop 64 l ks 64 (omega arith) n);
    }
