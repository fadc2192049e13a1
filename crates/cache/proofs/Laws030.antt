-- The definitions of the 68030's cache, at the cache that an array is.
use Rattle.std.specs.Prelude.{if◌then◌else◌, Option, Some, None}
use Prim.Native.Nat.{ℕ, ◌+◌, ◌*◌, ◌-◌, ◌/◌, ◌%◌, ◌^◌, ◌<◌, ◌≤◌}
use mathlib.Core.Path.{◌≡◌, refl, sym, ◌∙◌}
use mathlib.Core.Bool.{Bool, true, false, ◌&&◌, ◌||◌, not, and-true, and-false}
use mathlib.Core.List.{List, map}
use native.Mathlib.Omega.{arith}
use borrow.Author.Tests.{eq-eqb, ne_eqb, lt-ltb, le-ltb}
use lib.Dec.{eqb, ltb}
use lib.Bits.{bit_xor, and_zero_r}
use lib.ListN.{length, get_or, set, length-map}
use lib.Seq.{set-get_or}
use Rattle.definition.specs.Words.{agrees, count_of}
use Rattle.definition.specs.Cache030.{Entry, Cache030, matches, matching, stamped, rested, put_at, touched, found, hit_of, after_hit, dropped, shifted, victim, inserted, flushed_all, flushed_code, flushed_page}
use Rattle.cache.specs.Packed.{bit, odd, drop_tag}
use Rattle.cache.specs.Atc030.{recent_in, clock_in, shift_in, entry_of, entries_of, tags_of, pages_of, stamps_of, cache_of, Stepped, Looked, key_of, match_in, held_in, place_of, ranked, rest_stamps, rest_clock, used_stamps, Parts, Used}
use Rattle.cache.proofs.Parts.{part_length, part_get, tags_22, stamps_22, parts_of, put_tag, put_page, put_shift}
use Rattle.cache.proofs.Entries.{Level, key_matches, key_entry, drop_tag_lem, entries_length, entries_get, entries_set, entries_first, entries_stamps, entries_tags, smaller_is, oldest_is}

-- ---- lengths
pub length_ranked : (ss : List ℕ) → length (ranked ss) ≡ length ss
unfolding ranked
length_ranked ss = simp length-map

length_rest : (k : ℕ) (ss : List ℕ) → length (rest_stamps k ss) ≡ length ss
length_rest k ss = go (eqb k (2 ^ 64 - 1))
  where
    go : (b : Bool) → length (if b then ranked ss else ss) ≡ length ss
    go true = length_ranked ss
    go false = refl

-- the cache that the parts are
pub cache_is : {l ts ps ss : List ℕ} {r k s : ℕ} → Parts l ts ps ss r k s → cache_of l ≡ record { entries = entries_of ts ps ss; recent = r; clock = k; shift = s }
unfolding cache_of
cache_is p = rw (p.tags, p.pages, p.stamps, p.recent, p.clock, p.shift) refl

-- the stamps are ranked, then entry i is put
pub ranked_put : {l₁ l' ts ps ss : List ℕ} {r k s i n : ℕ} → Parts l₁ ts ps ss r k s → Parts l' (tags_of l₁) (pages_of l₁) (set (stamps_of l₁) i n) i n (shift_in l₁)
    → Parts l' ts ps (set ss i n) i n s
ranked_put p q = rw (← p.tags, ← p.pages, ← p.stamps, ← p.shift) q

module _ (l : List ℕ) (w : length l ≡ 69) where
  abbrev ts : List ℕ
  ts = tags_of l

  abbrev ps : List ℕ
  ps = pages_of l

  abbrev ss : List ℕ
  ss = stamps_of l

  pub level : Level ts ps ss
  level =
      record {
        pages = tags_22 l w ∙ sym (part_length 22 22 l (omega arith));
        stamps = tags_22 l w ∙ sym (stamps_22 l w);
      }

  pub entries_22 : length (entries_of ts ps ss) ≡ 22
  entries_22 = entries_length ts ps ss level ∙ tags_22 l w

  -- ---- a use
  rested_is : rested (cache_of l) ≡ record { entries = entries_of ts ps (rest_stamps (clock_in l) ss); recent = recent_in l; clock = rest_clock (clock_in l); shift = shift_in l }
  unfolding rested ranked cache_of
  rested_is = go (eqb (clock_in l) (2 ^ 64 - 1))
    where
      go : (b : Bool) → (if b then record { entries = map (λ (e : Entry). stamped (count_of (λ (f : Entry). ltb f.stamp e.stamp) (entries_of ts ps ss)) e) (entries_of ts ps ss); recent = recent_in l; clock = 22; shift = shift_in l } else cache_of l)
          ≡ record { entries = entries_of ts ps (if b then ranked ss else ss); recent = recent_in l; clock = (if b then 22 else clock_in l); shift = shift_in l }
      go true = simp (smaller_is ts ps ss level, entries_stamps)
      go false = refl

  -- entry i is made anew, and used
  used_is : (i t p : ℕ) (l' : List ℕ) → Parts l' (set ts i t) (set ps i p) (used_stamps ss (clock_in l) i) i (rest_clock (clock_in l) + 1) (shift_in l)
      → cache_of l' ≡ put_at (rested (cache_of l)) i (λ (n : ℕ). entry_of t p n)
  unfolding used_stamps
  used_is i t p l' q =
      cache_is q ∙ rw (rested_is, entries_set ts ps (rest_stamps (clock_in l) ss) i t p (rest_clock (clock_in l) + 1)) refl

  pub touched_same : (i : ℕ) → recent_in l ≡ i → Stepped (λ (c : Cache030). touched c i) l l
  unfolding touched cache_of
  touched_same i e = record { leaves = rw (eq-eqb i (recent_in l) (sym e)) refl; sized = w }

  pub touched_put : (i : ℕ) (l' : List ℕ) → (recent_in l ≡ i → ⊥) → Used l i l' → Stepped (λ (c : Cache030). touched c i) l l'
  unfolding touched cache_of
  touched_put i l' e q =
      let ss₁ = rest_stamps (clock_in l) ss in
      let v : Level ts ps ss₁ = record { pages = level.pages; stamps = level.stamps ∙ sym (length_rest (clock_in l) ss) } in
      let u = used_is i (get_or ts i 0) (get_or ps i 0) l' (rw (set-get_or ts i 0, set-get_or ps i 0) q) in
      record {
        leaves =
            rw (ne_eqb i (recent_in l) (λ q. e (sym q)), rested_is, entries_get ts ps ss₁ i v)
            (rw rested_is at u);
        sized = q.size;
      }

  -- ---- look up
  module _ (code page shift k i : ℕ) (h : code < 8) (ek : k ≡ key_of code page) (ei : i ≡ held_in l k shift) where
    matching_is : matching (cache_of l) code page ≡ match_in ts (recent_in l) k
    unfolding matching cache_of match_in
    matching_is =
        rw (ek, entries_get ts ps ss (recent_in l) level, key_matches code page h, entries_first (matches code page) (eqb (key_of code page)) (key_matches code page h) ts ps ss level)

    found_is : found (cache_of l) code page shift ≡ ltb i 22
    unfolding held_in cache_of
    found_is = go (eqb (shift_in l) shift) ei
      where
        go : (b : Bool) → i ≡ (if b then match_in ts (recent_in l) k else 22) → b && ltb (matching (cache_of l) code page) (length (entries_of ts ps ss)) ≡ ltb i 22
        go true e = rw (entries_22, matching_is, ← e)
        go false e = rw e

    matching_at : i < 22 → matching (cache_of l) code page ≡ i
    unfolding held_in
    matching_at h = go (eqb (shift_in l) shift) ei
      where
        go : (b : Bool) → i ≡ (if b then match_in ts (recent_in l) k else 22) → matching (cache_of l) code page ≡ i
        go true e = matching_is ∙ sym e
        go false e = absurd (omega arith)

    pub miss_at : (write : Bool) → 22 ≤ i → None ≡ hit_of (cache_of l) code page shift write
    unfolding hit_of
    miss_at write m = rw (found_is, le-ltb i 22 m)

    pub hit_at : (write : Bool) (r : Option ℕ) → i < 22 → r ≡ (if write && odd (get_or l (22 + i) 0) then None else Some (get_or l (22 + i) 0 / 2)) → r ≡ hit_of (cache_of l) code page shift write
    unfolding hit_of cache_of
    hit_at write r m e =
        rw (found_is, lt-ltb i 22 m, matching_at m, entries_get ts ps ss i level, ← part_get 22 22 l i (22 + i) refl m) e

    pub missed : (write recorded : Bool) → 22 ≤ i → Looked l code page shift write recorded None l
    unfolding after_hit
    missed write recorded m =
        record {
          answers = miss_at write m;
          steps = record { leaves = rw (found_is, le-ltb i 22 m, and-false recorded) refl; sized = w };
        }

    pub looked : (write recorded : Bool) (r : Option ℕ) (l' : List ℕ) → i < 22 → r ≡ (if write && odd (get_or l (22 + i) 0) then None else Some (get_or l (22 + i) 0 / 2))
        → Stepped (λ (c : Cache030). if recorded then touched c i else c) l l' → Looked l code page shift write recorded r l'
    unfolding after_hit
    looked write recorded r l' m e s =
        record {
          answers = hit_at write r m e;
          steps = record { leaves = rw (found_is, lt-ltb i 22 m, and-true recorded, matching_at m) s.leaves; sized = s.sized };
        }

  -- ---- flushes
  -- a flush that goes by the tag
  dropped_put : (P : Entry → Bool) (q : ℕ → Bool) (l' : List ℕ) (s : ℕ) → ((t p s : ℕ) → P (entry_of t p s) ≡ q t)
      → Parts l' (map (λ (t : ℕ). drop_tag (q t) t) ts) ps ss (recent_in l) (clock_in l) s
      → cache_of l' ≡ record { entries = map (λ (e : Entry). if P e then dropped e else e) (entries_of ts ps ss); recent = recent_in l; clock = clock_in l; shift = s }
  dropped_put P q l' s h e =
      let F : Entry → Entry = λ e. if P e then dropped e else e in
      cache_is e ∙ rw (entries_tags (λ (t : ℕ). drop_tag (q t) t) F (λ t p s. rw (h t p s) (drop_tag_lem (q t) t p s)) ts ps ss) refl

  module _ (l' : List ℕ) where
    -- the array's parts at another shift, and with the tags that a drop leaves
    abbrev Dropped : ℕ → ℕ → Bool → ℕ → ℕ → Type 0
    Dropped code mask every page s =
        Parts l' (map (λ (t : ℕ). drop_tag (agrees (t / 2 % 8) code mask && (every || eqb (t / 16) page)) t) ts) ps ss (recent_in l) (clock_in l) s

    pub flushed_all_lem : Dropped 0 0 true 0 (shift_in l) → Stepped flushed_all l l'
    unfolding flushed_all cache_of
    flushed_all_lem e =
        record {
          leaves = dropped_put (λ (e : Entry). true) (λ (t : ℕ). agrees (t / 2 % 8) 0 0 && true) l' (shift_in l) (λ t p s. rw (and_zero_r (bit_xor (t / 2 % 8) 0))) e;
          sized = e.size;
        }

    pub flushed_code_lem : (code mask : ℕ) → Dropped code mask true 0 (shift_in l) → Stepped (λ (c : Cache030). flushed_code c code mask) l l'
    unfolding flushed_code cache_of
    flushed_code_lem code mask e =
        record {
          leaves = dropped_put (λ (e : Entry). agrees e.code code mask) (λ (t : ℕ). agrees (t / 2 % 8) code mask && true) l' (shift_in l) (λ t p s. sym (and-true (agrees (t / 2 % 8) code mask))) e;
          sized = e.size;
        }

    pub flushed_page_lem : (code mask address page : ℕ) → (shift_in l ≡ 0 → ⊥) → page ≡ address / 2 ^ shift_in l → Dropped code mask false page (shift_in l)
        → Stepped (λ (c : Cache030). flushed_page c code mask address) l l'
    unfolding flushed_page cache_of
    flushed_page_lem code mask address page n ep e =
        let d = dropped_put (λ (e : Entry). agrees e.code code mask && eqb e.page page) (λ (t : ℕ). agrees (t / 2 % 8) code mask && eqb (t / 16) page) l' (shift_in l) (λ t p s. refl) e in
        record { leaves = rw (ne_eqb (shift_in l) 0 n, ← ep) d; sized = e.size }

    -- ---- insert
    pub shifted_put : (shift : ℕ) → (shift_in l ≡ shift → ⊥) → Dropped 0 0 true 0 (shift_in l) → Stepped (λ (c : Cache030). shifted c shift) l (set l' 68 shift)
    unfolding shifted flushed_all cache_of
    shifted_put shift n e =
        let q = put_shift e shift in
        let d = dropped_put (λ (e : Entry). true) (λ (t : ℕ). agrees (t / 2 % 8) 0 0 && true) (set l' 68 shift) shift (λ t p s. rw (and_zero_r (bit_xor (t / 2 % 8) 0))) q in
        record { leaves = rw (ne_eqb (shift_in l) shift n) d; sized = q.size }

  pub flushed_none : (code mask address : ℕ) → shift_in l ≡ 0 → Stepped (λ (c : Cache030). flushed_page c code mask address) l l
  unfolding flushed_page cache_of
  flushed_none code mask address e = record { leaves = rw (eq-eqb (shift_in l) 0 e) refl; sized = w }

  pub shifted_same : (shift : ℕ) → shift_in l ≡ shift → Stepped (λ (c : Cache030). shifted c shift) l l
  unfolding shifted cache_of
  shifted_same shift e = record { leaves = rw (eq-eqb (shift_in l) shift e) refl; sized = w }

  victim_is : (code page : ℕ) → code < 8 → victim (cache_of l).entries code page ≡ place_of ts ss (key_of code page)
  unfolding victim place_of cache_of
  victim_is code page h =
      rw (
        entries_22,
        entries_first (matches code page) (eqb (key_of code page)) (key_matches code page h) ts ps ss level,
        entries_first (λ (e : Entry). not e.valid) (λ (t : ℕ). not (odd t)) (λ t p s. refl) ts ps ss level,
        oldest_is ts ps ss level,
      )

-- the tag and the page that an insert writes
pub put_entry : (l : List ℕ) (i t p : ℕ) → length l ≡ 69 → i < 22
    → Parts (set (set l i t) (22 + i) p) (set (tags_of l) i t) (set (pages_of l) i p) (stamps_of l) (recent_in l) (clock_in l) (shift_in l)
put_entry l i t p w h = put_page (put_tag (parts_of l w) i t h) i p h

-- a use of an array with these parts
used_parts : {l l' ts ps ss : List ℕ} {r k s i : ℕ} → Parts l ts ps ss r k s → Used l i l' → Parts l' ts ps (used_stamps ss k i) i (rest_clock k + 1) s
used_parts p u = rw (← p.tags, ← p.pages, ← p.stamps, ← p.clock, ← p.shift) u

-- an insert, after the shift has been fitted
module _ (l l₁ : List ℕ) (shift : ℕ) (s : Stepped (λ (c : Cache030). shifted c shift) l l₁) where
  pub inserted_put : (code page base k i b : ℕ) (wp : Bool) (l' : List ℕ) → code < 8 → k ≡ key_of code page → i ≡ place_of (tags_of l₁) (stamps_of l₁) k → i < 22 → b ≡ bit wp
      → Used (set (set l₁ i k) (22 + i) (base * 2 + b)) i l'
      → Stepped (λ (c : Cache030). inserted c code page shift base wp) l l'
  unfolding inserted
  inserted_put code page base k i b wp l' h ek ei m eb u =
      let w = s.sized in
      let n = (rested (cache_of l₁)).clock + 1 in
      let q = used_parts (put_entry l₁ i (key_of code page) (base * 2 + bit wp) w m) (rw (ek, eb) at u) in
      record {
        leaves =
            rw (← s.leaves, victim_is l₁ w code page h, ← (rw ek at ei), ← key_entry code page base n wp h)
            (used_is l₁ w i (key_of code page) (base * 2 + bit wp) l' q);
        sized = u.size;
      }
