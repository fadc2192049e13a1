-- Caches that calls reach from the empty ones: in the 68030's no two valid entries have one key, so each is the one that its own key finds, and bases are
-- of 32 bits; in the 68040's, over longs of 32 bits, each valid slot stands in its own place, none is a user's with S, and bases are of 32 bits. So an entry
-- that the audit names there is wrong. Assumes nothing but what the statements say.
use Prim.Native.Nat.{ℕ, zero, suc, ◌-◌, ◌*◌, ◌/◌, ◌%◌, ◌^◌, ◌≤◌, ◌<◌}
use mathlib.Core.Path.{◌≡◌, refl, ap, sym, ◌∙◌}
use mathlib.Core.Logic.{◌⊎◌, inl, inr, ⊎_elim}
use mathlib.Core.List.{List, [], ◌∷◌, map}
use mathlib.Core.Bool.{Bool, true, false, not, ◌&&◌, ◌||◌, false≢true}
use native.Mathlib.Omega.{arith}
use native.Mathlib.Decide.{dec_le}
use borrow.Author.Tests.{lt-ltb, eq-eqb}
use lib.Dec.{eqb, ltb}
use lib.Pow.{split}
use lib.ListN.{length, get_or, set, replicate}
use Rattle.std.specs.Prelude.{if◌then◌else◌, Option, Some, None}
use Rattle.definition.specs.Words.{bit_of, first_of}
use Rattle.definition.specs.Registers.{on}
use Rattle.definition.specs.Memory.{Memory, in_ranges, inside, fetch_of}
use Rattle.definition.specs.Walk040.{Outcome040, ended040, asks, on_long, root_at, pointer_at, page_at, on_page, on_entry, on_pointer, on_root, walk040, page_bits, frame_of}
use Rattle.definition.specs.Cache030.{Entry, Cache030, no_entry, empty030, matches, matching, stamped, rested, touched, found, after_hit, dropped, shifted, victim, inserted, drop_if}
use Rattle.definition.specs.Cache040.{Slot, Cache040, empty040}
use Rattle.definition.specs.Translate.{Caches}
use Rattle.definition.specs.Audit.{first_of_page, audit_from}
use Rattle.definition.proofs.Replay.{Reached, start, then_call, Longs32}
use Rattle.definition.specs.declared.Audit.{Audit}
use Rattle.definition.specs.declared.Registers.{Registers}
use Rattle.definition.specs.declared.End040.{End040}
use Rattle.definition.specs.declared.End040.TheVariants.{Resident, Absent, Lost}
use Rattle.definition.specs.declared.FaultCause.{FaultCause}
use Rattle.definition.proofs.Choice.{if_by, if_both}
use Rattle.definition.proofs.Lists.{all_get, all_replicate, first_passes, none_passes}
use Rattle.definition.proofs.Hits030.{key_of}
use Rattle.definition.proofs.Entries030.{Keeps030, free_030}
use Rattle.definition.proofs.Entries040.{free_040, OfSlots, New040, Sound040, empty_sound, sound_keeps}
use Rattle.definition.proofs.Entries.{Both, Keeps, calling_keeps}
use Rattle.definition.proofs.Stale.{Wrong, entry_at, named_030, stale_is_wrong, slot_in, named_040, stale_is_wrong_040}
use Rattle.definition.specs.declared.FaultCause.TheVariants as cause

-- ---- the entry at i
abbrev at : List Entry → ℕ → Entry
at l i = get_or l i no_entry

-- a valid entry has the key and base of one that was there before
record Same (e b : Entry) : Type 0 where
  valid : b.valid ≡ true
  code : e.code ≡ b.code
  page : e.page ≡ b.page
  base : e.base ≡ b.base

-- no two valid entries have one key, and bases are of 32 bits
record Neat (l : List Entry) : Type 0 where
  single : (i j : ℕ) → (at l i).valid ≡ true → (at l j).valid ≡ true → (at l i).code ≡ (at l j).code → (at l i).page ≡ (at l j).page → i ≡ j
  small : (i : ℕ) → (at l i).valid ≡ true → (at l i).base < 2 ^ 32

neat_by : (l l' : List Entry) → ((i : ℕ) → (at l' i).valid ≡ true → Same (at l' i) (at l i)) → Neat l → Neat l'
neat_by l l' k h =
    record {
      single = λ i j v w c p.
          let a = k i v in
          let b = k j w in
          h.single i j a.valid b.valid (sym a.code ∙ c ∙ b.code) (sym a.page ∙ p ∙ b.page);
      small = λ i v. let a = k i v in rw a.base (h.small i a.valid);
    }

map_keeps : (f : Entry → Entry) → ((e : Entry) → (f e).valid ≡ true → Same (f e) e) → (l : List Entry) (i : ℕ) → (at (map f l) i).valid ≡ true
    → Same (at (map f l) i) (at l i)
map_keeps f k [] i v = absurd (false≢true v)
map_keeps f k (x ∷ l) zero v = k x v
map_keeps f k (x ∷ l) (suc i) v = map_keeps f k l i v

self : (e : Entry) → e.valid ≡ true → Same e e
self e v = record { valid = v; code = refl; page = refl; base = refl }

set_at : (l : List Entry) (i : ℕ) (x : Entry) (k : ℕ) → ((at (set l i x) k ≡ x) × (k ≡ i)) ⊎ (at (set l i x) k ≡ at l k)
set_at [] i x k = inr refl
set_at (y ∷ l) zero x zero = inl (refl, refl)
set_at (y ∷ l) zero x (suc k) = inr refl
set_at (y ∷ l) (suc i) x zero = inr refl
set_at (y ∷ l) (suc i) x (suc k) = ⊎_elim (λ h. inl (h.0, ap suc h.1)) (λ h. inr h) (set_at l i x k)

set_keeps : (l : List Entry) (i : ℕ) (x : Entry) → (x.valid ≡ true → Same x (at l i)) → (k : ℕ) → (at (set l i x) k).valid ≡ true → Same (at (set l i x) k) (at l k)
set_keeps l i x h k =
    ⊎_elim (λ s v. rw (s.0, s.1) (h (rw s.0 at v))) (λ s v. rw s (self (at l k) (rw s at v))) (set_at l i x k)

-- a new entry, where none but the one that it replaces has its key
set_neat : (l : List Entry) (v : ℕ) (x : Entry) → x.base < 2 ^ 32
    → ((j : ℕ) → (at l j).valid ≡ true → (at l j).code ≡ x.code → (at l j).page ≡ x.page → j ≡ v) → Neat l → Neat (set l v x)
set_neat l v x low only h =
    record {
      single = λ i j. two i j (set_at l v x i) (set_at l v x j);
      small = λ i. ⊎_elim (λ k w. rw k.0 low) (λ k w. rw k (h.small i (rw k at w))) (set_at l v x i);
    }
  where
    two : (i j : ℕ) → ((at (set l v x) i ≡ x) × (i ≡ v)) ⊎ (at (set l v x) i ≡ at l i) → ((at (set l v x) j ≡ x) × (j ≡ v)) ⊎ (at (set l v x) j ≡ at l j)
        → (at (set l v x) i).valid ≡ true → (at (set l v x) j).valid ≡ true → (at (set l v x) i).code ≡ (at (set l v x) j).code
        → (at (set l v x) i).page ≡ (at (set l v x) j).page → i ≡ j
    two i j (inl a) (inl b) va vb c p = a.1 ∙ sym b.1
    two i j (inl a) (inr b) va vb c p =
        a.1 ∙ sym (only j (rw b at vb) (sym (ap (λ (e : Entry). e.code) b) ∙ sym c ∙ ap (λ (e : Entry). e.code) a.0)
        (sym (ap (λ (e : Entry). e.page) b) ∙ sym p ∙ ap (λ (e : Entry). e.page) a.0))
    two i j (inr a) (inl b) va vb c p =
        only i (rw a at va) (sym (ap (λ (e : Entry). e.code) a) ∙ c ∙ ap (λ (e : Entry). e.code) b.0)
        (sym (ap (λ (e : Entry). e.page) a) ∙ p ∙ ap (λ (e : Entry). e.page) b.0) ∙ sym b.1
    two i j (inr a) (inr b) va vb c p = h.single i j (rw a at va) (rw b at vb) (rw (a, b) at c) (rw (a, b) at p)

-- ---- each change of the cache
stamped_same : (n : ℕ) (e : Entry) → (stamped n e).valid ≡ true → Same (stamped n e) e
stamped_same n e v = record { valid = v; code = refl; page = refl; base = refl }

dropped_same : (e : Entry) → (dropped e).valid ≡ true → Same (dropped e) e
dropped_same e v = absurd (false≢true v)

mapped_neat : (f : Entry → Entry) → ((e : Entry) → (f e).valid ≡ true → Same (f e) e) → (l : List Entry) → Neat l → Neat (map f l)
mapped_neat f k l h = neat_by l (map f l) (map_keeps f k l) h

abbrev Neat030 : Cache030 → Type 0
Neat030 c = Neat c.entries

rested_keeps : (c : Cache030) (i : ℕ) → (at (rested c).entries i).valid ≡ true → Same (at (rested c).entries i) (at c.entries i)
unfolding rested
rested_keeps c i =
    if_both (λ (d : Cache030). (at d.entries i).valid ≡ true → Same (at d.entries i) (at c.entries i)) (eqb c.clock (2 ^ 64 - 1)) _ _
    (map_keeps _ (λ e. stamped_same _ e) c.entries i) (self (at c.entries i))

rested_neat : (c : Cache030) → Neat030 c → Neat030 (rested c)
rested_neat c h = neat_by c.entries (rested c).entries (rested_keeps c) h

touched_neat : (c : Cache030) (i : ℕ) → Neat030 c → Neat030 (touched c i)
unfolding touched
touched_neat c i h =
    if_both Neat030 (eqb i c.recent) _ _ h
    (neat_by (rested c).entries _ (set_keeps (rested c).entries i _ (λ v. stamped_same _ (at (rested c).entries i) v)) (rested_neat c h))

after_hit_neat : (c : Cache030) (recorded : Bool) (code page s : ℕ) → Neat030 c → Neat030 (after_hit c recorded code page s)
unfolding after_hit
after_hit_neat c recorded code page s h =
    if_both Neat030 (recorded && found c code page s) _ _ (touched_neat c (matching c code page) h) h

shifted_neat : (c : Cache030) (s : ℕ) → Neat030 c → Neat030 (shifted c s)
unfolding shifted
shifted_neat c s h = if_both Neat030 (eqb c.shift s) _ _ h (mapped_neat dropped dropped_same c.entries h)

-- an entry that passes is found
first_below : (p : Entry → Bool) (l : List Entry) (j : ℕ) → p no_entry ≡ false → p (at l j) ≡ true → first_of p l < length l
first_below p l j f t = choose (dec_le (length l) (first_of p l))
  where
    choose : Dec (length l ≤ first_of p l) → first_of p l < length l
    choose (yes h) = absurd (false≢true (sym (none_passes p l no_entry f h j) ∙ t))
    choose (no h) = omega arith

by_key : (code page : ℕ) (e : Entry) → e.valid ≡ true → e.code ≡ code → e.page ≡ page → matches code page e ≡ true
by_key code page e v c p = rw (v, eq-eqb e.code code c, eq-eqb e.page page p)

-- an insert takes the place of the entry that has its key
takes_own : (l : List Entry) (code page j : ℕ) → Neat l → (at l j).valid ≡ true → (at l j).code ≡ code → (at l j).page ≡ page → j ≡ victim l code page
unfolding victim
takes_own l code page j h v c p =
    let t = by_key code page (at l j) v c p in
    let b = first_below (matches code page) l j refl t in
    let k = key_of code page (at l (first_of (matches code page) l)) (first_passes (matches code page) l no_entry b) in
    rw (lt-ltb (first_of (matches code page) l) (length l) b)
    (h.single j (first_of (matches code page) l) v k.0 (c ∙ sym k.1.0) (p ∙ sym k.1.1))

inserted_neat : (c : Cache030) (code page s base : ℕ) (wp : Bool) → base < 2 ^ 32 → Neat030 c → Neat030 (inserted c code page s base wp)
unfolding inserted
inserted_neat c code page s base wp low h =
    let k = shifted_neat c s h in
    set_neat (rested (shifted c s)).entries (victim (shifted c s).entries code page) _ low
    (λ j v e p.
    let z = rested_keeps (shifted c s) j v in
    takes_own (shifted c s).entries code page j k z.valid (sym z.code ∙ e) (sym z.page ∙ p))
    (rested_neat (shifted c s) k)

drop_neat : (p : Entry → Bool) (c : Cache030) → Neat030 c → Neat030 (drop_if p c)
drop_neat p c h =
    mapped_neat (λ (e : Entry). if p e then dropped e else e)
    (λ e. if_both (λ (d : Entry). d.valid ≡ true → Same d e) (p e) (dropped e) e (dropped_same e) (self e)) c.entries h

-- its own key finds it
finds_own : (c : Cache030) (i : ℕ) → Neat030 c → (at c.entries i).valid ≡ true → matching c (at c.entries i).code (at c.entries i).page ≡ i
unfolding matching
finds_own c i h v =
    if_by (λ (n : ℕ). n ≡ i) (matches (at c.entries i).code (at c.entries i).page (at c.entries c.recent)) _ _
    (λ t.
    let k = key_of (at c.entries i).code (at c.entries i).page (at c.entries c.recent) t in
    h.single c.recent i k.0 v k.1.0 k.1.1)
    (λ f.
    let p = matches (at c.entries i).code (at c.entries i).page in
    let b = first_below p c.entries i refl (by_key (at c.entries i).code (at c.entries i).page (at c.entries i) v refl refl) in
    let k = key_of (at c.entries i).code (at c.entries i).page (at c.entries (first_of p c.entries)) (first_passes p c.entries no_entry b) in
    h.single (first_of p c.entries) i k.0 v k.1.0 k.1.1)

-- every call keeps it
neat_keeps : (g : Registers) (m : Memory) → Keeps030 g m Neat030
neat_keeps g m =
    record {
      look = after_hit_neat;
      drop = drop_neat;
      insert = λ c code page s base wp l w h. inserted_neat c code page s base wp (omega (arith, w.based)) h;
    }

empty_at : (i : ℕ) → (at (replicate 22 no_entry) i).valid ≡ false
empty_at i =
    all_get (λ (e : Entry). e.valid ≡ false) (replicate 22 no_entry) i no_entry refl (all_replicate (λ (e : Entry). e.valid ≡ false) 22 no_entry refl)

empty_neat : Neat030 empty030
empty_neat =
    record {
      single = λ i j v w c p. absurd (false≢true (sym (empty_at i) ∙ v));
      small = λ i v. absurd (false≢true (sym (empty_at i) ∙ v));
    }

-- ---- a walk over longs of 32 bits finds a page of 32 bits
abbrev Fits : End040 → Type 0
Fits (Resident field wp sup) = field < 2 ^ 32
Fits (Absent missing) = Unit {0}
Fits (Lost at) = Unit {0}

abbrev FitsIn : Option ℕ → Type 0
FitsIn (Some x) = x < 2 ^ 32
FitsIn None = Unit {0}

abbrev Ends : Outcome040 → Type 0
Ends o = Fits o.end

module _ (m : Memory) (l : Longs32 m) where
  fetch_fits : (at : ℕ) → FitsIn (fetch_of m at)
  fetch_fits at = if_both FitsIn (inside m.longs m.base at && not (in_ranges m.ranges at)) _ _ (l.each ((at - m.base) / 4)) tt

  long_fits : (at : ℕ) (before : List ℕ) (next : ℕ → List ℕ → Outcome040) → ((x : ℕ) (asked : List ℕ) → x < 2 ^ 32 → Ends (next x asked)) → (r : Option ℕ) → FitsIn r
      → Ends (on_long at before next r)
  long_fits at before next h (Some x) f = h x _ f
  long_fits at before next h None f = tt

  page_fits : (tables : Bool) (missing : FaultCause) (page : ℕ) (asked : List ℕ) → page < 2 ^ 32 → Ends (on_page tables missing page asked)
  page_fits tables missing page asked f = if_both Fits (eqb (page % 4) 0) (Absent missing) (Resident page (tables || bit_of page 2) (bit_of page 7)) tt f

  entry_fits : (tables : Bool) (page : ℕ) (asked : List ℕ) → page < 2 ^ 32 → Ends (on_entry m tables page asked)
  entry_fits tables page asked f =
      if_both Ends (eqb (page % 4) 2) _ _
      (long_fits (page / 4 * 4) asked (λ target asked. on_page tables cause.Indirect target asked) (λ x asked f. page_fits tables cause.Indirect x asked f) (fetch_of m (page / 4 * 4)) (fetch_fits (page / 4 * 4)))
      (page_fits tables cause.PageFault page asked f)

  pointer_fits : (tc address root pointer : ℕ) (asked : List ℕ) → Ends (on_pointer m tc address root pointer asked)
  pointer_fits tc address root pointer asked =
      if_both Ends (ltb (pointer % 4) 2) (ended040 (Absent cause.PointerB) asked)
      (asks m (page_at tc pointer address) asked (λ page asked. on_entry m (bit_of root 2 || bit_of pointer 2) page asked)) tt
      (long_fits (page_at tc pointer address) asked (λ page asked. on_entry m (bit_of root 2 || bit_of pointer 2) page asked)
      (λ page asked f. entry_fits (bit_of root 2 || bit_of pointer 2) page asked f)
      (fetch_of m (page_at tc pointer address)) (fetch_fits (page_at tc pointer address)))

  root_fits : (tc address root : ℕ) (asked : List ℕ) → Ends (on_root m tc address root asked)
  root_fits tc address root asked =
      if_both Ends (ltb (root % 4) 2) (ended040 (Absent cause.PointerA) asked)
      (asks m (pointer_at root address) asked (λ pointer asked. on_pointer m tc address root pointer asked)) tt
      (long_fits (pointer_at root address) asked (λ pointer asked. on_pointer m tc address root pointer asked)
      (λ pointer asked f. pointer_fits tc address root pointer asked)
      (fetch_of m (pointer_at root address)) (fetch_fits (pointer_at root address)))

  walk_fits : (g : Registers) (address : ℕ) (supervisor : Bool) → Ends (walk040 m g address supervisor)
  unfolding walk040
  walk_fits g address supervisor =
      long_fits (root_at g supervisor address) [] (λ root asked. on_root m g.tc address root asked)
      (λ root asked f. root_fits g.tc address root asked)
      (fetch_of m (root_at g supervisor address)) (fetch_fits (root_at g supervisor address))

frame_small : (tc field : ℕ) → field < 2 ^ 32 → frame_of tc field < 2 ^ 32
frame_small tc field f = omega (arith, split field (page_bits tc))

-- ---- the slot at i
-- a valid slot stands in its own place, is no user's with S, and has a base of 32 bits
record InPlace (i : ℕ) (s : Slot) : Type 0 where
  place : s.frame % 64 ≡ i
  user : (not s.supervisor && s.sup) ≡ false
  small : s.base < 2 ^ 32

abbrev Placed : ℕ → Slot → Type 0
Placed i s = s.valid ≡ true → InPlace i s

placed : OfSlots Placed
placed = record { invalid = λ i s f v. absurd (false≢true (sym f ∙ v)) }

fits_at : (tc : ℕ) (e : End040) (field : ℕ) (wp sup : Bool) → Fits e → e ≡ Resident field wp sup → frame_of tc field < 2 ^ 32
fits_at tc (Resident x w s) field wp sup f e = let z : x ≡ field = cc in frame_small tc field (rw z at f)
fits_at tc (Absent missing) field wp sup f e = let z : ◌≡◌ {A = ℕ} 0 1 = cc in absurd (omega arith)
fits_at tc (Lost at) field wp sup f e = let z : ◌≡◌ {A = ℕ} 0 1 = cc in absurd (omega arith)

placed_new : (g : Registers) (m : Memory) → Longs32 m → New040 Placed g m
placed_new g m l frame supervisor base wp sup w v =
    let f = fits_at g.tc _ w.field wp sup (walk_fits m l g w.address supervisor) w.end in
    record { place = refl; user = w.allowed; small = rw w.based at f }

-- ---- what calls reach
module _ (M : Memory → Type 0) (I : Cache030 → Type 0) (J : Cache040 → Type 0) (h : I empty030) (k : J empty040)
    (keeps : (g : Registers) (m : Memory) → M m → Keeps I J g m) where
  reached_keeps : (c : Caches) → Reached M c → Both I J c
  reached_keeps _ start = record { in030 = h; in040 = k }
  reached_keeps _ (then_call g m call {c} p r) = calling_keeps I J g m (keeps g m p) c (reached_keeps c r) call

reached_neat : (M : Memory → Type 0) (c : Caches) → Reached M c → Neat030 c.c030
reached_neat M c r =
    (reached_keeps M Neat030 (λ d. Unit {0}) empty_neat tt (λ g m p. record { in030 = neat_keeps g m; in040 = free_040 g m }) c r).in030

reached_placed : (c : Caches) → Reached Longs32 c → Sound040 Placed c.c040
reached_placed c r =
    (reached_keeps Longs32 (λ d. Unit {0}) (Sound040 Placed) tt (empty_sound Placed placed)
    (λ g m l. record { in030 = free_030 g m; in040 = sound_keeps Placed placed g m (placed_new g m l) }) c r).in040

-- the law: of caches that calls made from the empty ones, whatever the registers and memories were, an entry that the audit names is wrong
pub reached_stale_is_wrong : (g : Registers) (m : Memory) (M : Memory → Type 0) (c : Caches) (from i : ℕ) → Reached M c → audit_from g m c from ≡ Audit.Stale030 i
    → on g ≡ true → Wrong g m c (bit_of (entry_at c i).code 2) (eqb ((entry_at c i).code % 4) 2) (first_of_page (entry_at c i).page c.c030.shift)
reached_stale_is_wrong g m M c from i r e o =
    let h = reached_neat M c r in
    let v = (named_030 g m c from i e).valid in
    stale_is_wrong g m c from i e (finds_own c.c030 i h v) (h.small i v) o

-- and so is a slot, over memories of longs of 32 bits
pub reached_stale_is_wrong_040 : (g : Registers) (m : Memory) (c : Caches) (from i : ℕ) (instruction : Bool) → Reached Longs32 c → Longs32 m
    → audit_from g m c from ≡ Audit.Stale040 i → on g ≡ true
    → Wrong g m c (slot_in c i).supervisor instruction (first_of_page (slot_in c i).frame (page_bits g.tc))
reached_stale_is_wrong_040 g m c from i instruction r l e o =
    let h = reached_placed c r i (named_040 g m c from i e).valid in
    stale_is_wrong_040 g m c from i e h.user
    (λ field wp sup f. fits_at g.tc _ field wp sup (walk_fits m l g (first_of_page (slot_in c i).frame (page_bits g.tc)) (slot_in c i).supervisor) f)
    instruction h.place h.small o
