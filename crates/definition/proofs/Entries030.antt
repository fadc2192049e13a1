-- The 68030 cache's entries: nothing changes one but to drop it or stamp it again, and nothing adds one but a walk of its key; and the cache keeps its
-- 22 places and passes check 4. So what these keep of one entry is kept of all. Assumes nothing.
use Rattle.std.specs.Prelude.{Option, Some, None}
use Prim.Native.Nat.{ℕ, ◌+◌, ◌-◌, ◌/◌, ◌^◌, ◌≤◌, ◌<◌}
use mathlib.Core.Path.{◌≡◌, refl, ◌∙◌}
use mathlib.Core.List.{List, [], ◌∷◌, map}
use mathlib.Core.Bool.{Bool, true, false, not, ◌&&◌, ◌||◌}
use native.Mathlib.Omega.{arith}
use native.Mathlib.Nat.{not-suc-le-zero}
use borrow.Author.Tests.{ltb-true, ltb-false, le-leb, le-ltb, eqb-true}
use lib.Dec.{eqb, ltb, leb}
use lib.ListN.{length, get_or, length-map, length-set}
use Rattle.definition.specs.Words.{bit_of, first_of, all_of, agrees}
use Rattle.definition.specs.Memory.{Memory}
use Rattle.definition.specs.Walk030.{walk030, every_level, physical_of, shift_of}
use Rattle.definition.specs.Cache030.{Entry, Cache030, no_entry, empty030, matches, matching, stamped, rested, put_at, touched, found, hit_of, after_hit, dropped, shifted, oldest, victim, inserted, drop_if, flushed_all, flushed_page}
use Rattle.definition.specs.Translate.{base_of, cached, Searched, on_end030, search030, on_hit030, with030}
use Rattle.definition.specs.Refusal.{bad_cache}
use Rattle.definition.specs.declared.End.{End}
use Rattle.definition.specs.declared.End.TheVariants.{Page, Invalid, LevelStop, BusError, Config}
use Rattle.definition.specs.declared.Registers.{Registers}
use Rattle.definition.proofs.Choice.{if_by, if_both, and_right, or_left, or_right}
use Rattle.definition.proofs.Lists.{All, all_set, all_get, all_by, all_replicate, all_made, all_map, first_within, all_pass, Least, least_of}
use Rattle.definition.proofs.Page030.{shift_cut}

-- ---- what a call does to the cache
-- a walk of this code and page under g and over m found the page with this base and WP, and S let it be cached
pub record Walked030 (g : Registers) (m : Memory) (s code page base : ℕ) (wp : Bool) : Type 0 where
  pub shift : shift_of g.tc ≡ Some s
  pub address : ℕ
  pub at : address / 2 ^ s ≡ page
  pub field : ℕ
  pub consumed : ℕ
  pub end : (walk030 m g address code every_level).end ≡ Page field consumed
  pub protect : (walk030 m g address code every_level).found.wp ≡ wp
  pub allowed : ((walk030 m g address code every_level).found.sup && not (bit_of code 2)) ≡ false
  pub based : base_of (physical_of field consumed address) address s ≡ base

-- the calls under g and over m keep I: a look into the cache does, a flush does, and an insert of what a walk found does
pub record Keeps030 (g : Registers) (m : Memory) (I : Cache030 → Type 0) : Type 0 where
  pub look : (c : Cache030) (recorded : Bool) (code page s : ℕ) → I c → I (after_hit c recorded code page s)
  pub drop : (p : Entry → Bool) (c : Cache030) → I c → I (drop_if p c)
  pub insert : (c : Cache030) (code page s base : ℕ) (wp : Bool) → s ≤ 31 → Walked030 g m s code page base wp → I c → I (inserted c code page s base wp)

-- they keep what says nothing
pub free_030 : (g : Registers) (m : Memory) → Keeps030 g m (λ c. Unit {0})
free_030 g m = record { look = λ c recorded code page s h. tt; drop = λ p c h. tt; insert = λ c code page s base wp l w h. tt }

module _ (g : Registers) (m : Memory) (I : Cache030 → Type 0) (k : Keeps030 g m I) where
  pub flushed_page_keeps : (c : Cache030) (code mask address : ℕ) → I c → I (flushed_page c code mask address)
  unfolding flushed_page
  flushed_page_keeps c code mask address h =
      if_both I (eqb c.shift 0) _ _ h
      (k.drop (λ (e : Entry). agrees e.code code mask && eqb e.page (address / 2 ^ c.shift)) c h)

  module _ (code address : ℕ) (write : Bool) where
    cached_keeps : (c : Cache030) → I c → (field consumed : ℕ) (sh : Option ℕ) → shift_of g.tc ≡ sh
        → (walk030 m g address code every_level).end ≡ Page field consumed
        → ((walk030 m g address code every_level).found.sup && not (bit_of code 2)) ≡ false
        → I (cached sh c code address (physical_of field consumed address) (walk030 m g address code every_level).found.wp)
    cached_keeps c h field consumed None e f a = h
    cached_keeps c h field consumed (Some s) e f a =
        k.insert c code (address / 2 ^ s) s _ _ (shift_cut g.tc s e).most
        (record {
          shift = e;
          address = address;
          at = refl;
          field = field;
          consumed = consumed;
          end = f;
          protect = refl;
          allowed = a;
          based = refl;
        }) h

    end_keeps : (c : Cache030) → I c → (e : End) → (walk030 m g address code every_level).end ≡ e
        → I (on_end030 g.tc c code address write (walk030 m g address code every_level).found.wp
        (walk030 m g address code every_level).found.sup (walk030 m g address code every_level).found.asked e).cache
    end_keeps c h (Page field consumed) f =
        if_by (λ (s : Searched). I s.cache) ((walk030 m g address code every_level).found.sup && not (bit_of code 2)) _ _ (λ t. h)
        (λ a. cached_keeps c h field consumed (shift_of g.tc) refl f a)
    end_keeps c h (Invalid indirect) f = h
    end_keeps c h LevelStop f = h
    end_keeps c h (BusError at) f = h
    end_keeps c h Config f = h

    -- a search adds nothing but the entry that its walk found
    pub search_keeps : (c : Cache030) → I c → I (search030 g m c code address write).cache
    unfolding search030
    search_keeps c h = end_keeps c h (walk030 m g address code every_level).end refl

    on_hit_keeps : (c : Cache030) (s : ℕ) (hit : Option ℕ) → I c → I (on_hit030 g m c code address write s hit).cache
    on_hit_keeps c s (Some base) h = h
    on_hit_keeps c s None h = search_keeps c h

    -- nor does a translation
    pub with_keeps : (c : Cache030) (recorded : Bool) (sh : Option ℕ) → I c → I (with030 g m c recorded code address write sh).cache
    with_keeps c recorded None h = search_keeps c h
    with_keeps c recorded (Some s) h =
        on_hit_keeps (after_hit c recorded code (address / 2 ^ s) s) s (hit_of c code (address / 2 ^ s) s write)
        (k.look c recorded code (address / 2 ^ s) s h)

-- ---- where an insert goes
oldest_within : (l : List Entry) → 0 < length l → oldest l < length l
unfolding oldest
oldest_within [] h = absurd (not-suc-le-zero h)
oldest_within (x ∷ l) h =
    first_within (λ (e : Entry). all_of (λ (f : Entry). leb e.stamp f.stamp) (x ∷ l)) (x ∷ l) e k.one
    (all_pass (λ (f : Entry). leb e.stamp f.stamp) (x ∷ l) (λ f i. le-leb e.stamp f.stamp (k.lowest f i)))
  where
    e : Entry
    e = (least_of (λ (e : Entry). e.stamp) x l).0

    k : Least (λ (e : Entry). e.stamp) (x ∷ l) e
    k = (least_of (λ (e : Entry). e.stamp) x l).1

victim_within : (l : List Entry) (code page : ℕ) → 0 < length l → victim l code page < length l
unfolding victim
victim_within l code page h =
    if_by (λ (n : ℕ). n < length l) (ltb (first_of (matches code page) l) (length l)) _ _ (λ t. ltb-true _ _ t)
    (λ f.
    if_by (λ (n : ℕ). n < length l) (ltb (first_of (λ (e : Entry). not e.valid) l) (length l)) _ _ (λ t. ltb-true _ _ t)
    (λ f. oldest_within l h))

-- ---- the shift that a cache is left with
rested_shift : (c : Cache030) → (rested c).shift ≡ c.shift
unfolding rested
rested_shift c = if_both (λ (d : Cache030). d.shift ≡ c.shift) (eqb c.clock (2 ^ 64 - 1)) _ _ refl refl

shifted_shift : (c : Cache030) (s : ℕ) → (shifted c s).shift ≡ s
unfolding shifted
shifted_shift c s = if_by (λ (d : Cache030). d.shift ≡ s) (eqb c.shift s) _ _ (λ t. eqb-true c.shift s t) (λ f. refl)

-- ---- what is kept of one entry is kept of all
-- B speaks of an entry that was made under a shift: of one that is not valid it says nothing, and it does not read the stamp
pub record OfEntries (B : ℕ → Entry → Type 0) : Type 0 where
  pub invalid : (s : ℕ) (e : Entry) → e.valid ≡ false → B s e
  pub again : (s n : ℕ) (e : Entry) → B s e → B s (stamped n e)

-- it holds of what a walk under g and over m finds
abbrev pub New030 : (ℕ → Entry → Type 0) → Registers → Memory → Type 0
New030 B g m =
    (s n code page base : ℕ) (wp : Bool) → Walked030 g m s code page base wp
    → B s (record { valid = true; code = code; page = page; base = base; wp = wp; stamp = n })

-- a cache as it can be: 22 entries, check 4 passes, and B holds of each entry
pub record Sound030 (B : ℕ → Entry → Type 0) (c : Cache030) : Type 0 where
  pub size : length c.entries ≡ 22
  pub four : bad_cache c ≡ false
  pub held : All (B c.shift) c.entries

pub recent_low : (c : Cache030) → bad_cache c ≡ false → c.recent ≤ 21
recent_low c f = ltb-false 21 c.recent (or_left (ltb 21 c.recent) _ f)

pub shift_low : (c : Cache030) → bad_cache c ≡ false → c.shift ≤ 31
shift_low c f = ltb-false 31 c.shift (or_right (ltb 21 c.recent) _ f)

pub passes_by : (recent shift : ℕ) → recent ≤ 21 → shift ≤ 31 → (ltb 21 recent || ltb 31 shift) ≡ false
passes_by recent shift l h = rw (le-ltb 21 recent l, le-ltb 31 shift h)

-- a flush of all leaves no valid entry
pub flushed_all_invalid : (c : Cache030) → All (λ (e : Entry). e.valid ≡ false) (flushed_all c).entries
unfolding flushed_all
flushed_all_invalid c = all_made (λ (e : Entry). e.valid ≡ false) dropped (λ e. refl) c.entries

module _ (B : ℕ → Entry → Type 0) (o : OfEntries B) where
  -- where no entry is valid, it holds of each
  pub invalid_sound : (c : Cache030) → length c.entries ≡ 22 → bad_cache c ≡ false → All (λ (e : Entry). e.valid ≡ false) c.entries → Sound030 B c
  invalid_sound c size four none =
      record {
        size = size;
        four = four;
        held = all_by (λ (e : Entry). e.valid ≡ false) (B c.shift) (λ e f. o.invalid c.shift e f) c.entries none;
      }

  pub empty_sound : Sound030 B empty030
  empty_sound = invalid_sound empty030 refl refl (all_replicate (λ (e : Entry). e.valid ≡ false) 22 no_entry refl)

  -- each entry changed in its place
  mapped_sound : (c : Cache030) (f : Entry → Entry) (clock s : ℕ) → s ≤ 31 → ((e : Entry) → B c.shift e → B s (f e)) → Sound030 B c
      → Sound030 B (record { entries = map f c.entries; recent = c.recent; clock = clock; shift = s })
  mapped_sound c f clock s l k h =
      record {
        size = length-map c.entries f ∙ h.size;
        four = passes_by c.recent s (recent_low c h.four) l;
        held = all_map (B c.shift) (B s) f k c.entries h.held;
      }

  rested_sound : (c : Cache030) → Sound030 B c → Sound030 B (rested c)
  unfolding rested
  rested_sound c h =
      if_both (Sound030 B) (eqb c.clock (2 ^ 64 - 1)) _ _
      (mapped_sound c _ 22 c.shift (shift_low c h.four) (λ e k. o.again c.shift _ e k) h) h

  put_sound : (c : Cache030) (i : ℕ) (f : ℕ → Entry) → Sound030 B c → i < 22 → B c.shift (f (c.clock + 1)) → Sound030 B (put_at c i f)
  put_sound c i f h l k =
      record {
        size = length-set c.entries i (f (c.clock + 1)) ∙ h.size;
        four = passes_by i c.shift (omega arith) (shift_low c h.four);
        held = all_set (B c.shift) c.entries i (f (c.clock + 1)) k h.held;
      }

  touched_sound : (c : Cache030) (i : ℕ) → i < 22 → Sound030 B c → Sound030 B (touched c i)
  unfolding touched
  touched_sound c i l h =
      let r = rested_sound c h in
      let s = (rested c).shift in
      if_both (Sound030 B) (eqb i c.recent) _ _ h
      (put_sound (rested c) i (λ (n : ℕ). stamped n (get_or (rested c).entries i no_entry)) r l
      (o.again s _ _ (all_get (B s) (rested c).entries i no_entry (o.invalid s no_entry refl) r.held)))

  look_sound : (c : Cache030) (recorded : Bool) (code page s : ℕ) → Sound030 B c → Sound030 B (after_hit c recorded code page s)
  unfolding after_hit
  look_sound c recorded code page s h =
      if_by (Sound030 B) (recorded && found c code page s) _ _
      (λ t.
      let there = and_right (eqb c.shift s) _ (and_right recorded (found c code page s) t) in
      let l = ltb-true (matching c code page) (length c.entries) there in
      touched_sound c (matching c code page) (rw h.size at l) h)
      (λ f. h)

  shifted_sound : (c : Cache030) (s : ℕ) → s ≤ 31 → Sound030 B c → Sound030 B (shifted c s)
  unfolding shifted
  shifted_sound c s l h =
      if_both (Sound030 B) (eqb c.shift s) _ _ h
      (mapped_sound c dropped c.clock s l (λ e k. o.invalid s (dropped e) refl) h)

  insert_sound : (g : Registers) (m : Memory) → New030 B g m → (c : Cache030) (code page s base : ℕ) (wp : Bool) → s ≤ 31
      → Walked030 g m s code page base wp → Sound030 B c → Sound030 B (inserted c code page s base wp)
  unfolding inserted
  insert_sound g m new c code page s base wp l w h =
      let k = shifted_sound c s l h in
      let r = rested_sound (shifted c s) k in
      let v = victim_within (shifted c s).entries code page (rw k.size (omega arith)) in
      put_sound (rested (shifted c s)) (victim (shifted c s).entries code page)
      (λ (n : ℕ). record { valid = true; code = code; page = page; base = base; wp = wp; stamp = n }) r (rw k.size at v)
      (rw (rested_shift (shifted c s) ∙ shifted_shift c s) (new s _ code page base wp w))

  drop_sound : (p : Entry → Bool) (c : Cache030) → Sound030 B c → Sound030 B (drop_if p c)
  drop_sound p c h =
      mapped_sound c _ c.clock c.shift (shift_low c h.four)
      (λ e k. if_both (B c.shift) (p e) (dropped e) e (o.invalid c.shift (dropped e) refl) k) h

  -- the law: every call keeps it
  pub sound_keeps : (g : Registers) (m : Memory) → New030 B g m → Keeps030 g m (Sound030 B)
  sound_keeps g m new = record { look = look_sound; drop = drop_sound; insert = insert_sound g m new }
