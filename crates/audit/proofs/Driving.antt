-- The loop of `audit_lent`, and of `audit` by value: what is known between two entries, and that a turn keeps it. Assumes nothing.
use Prim.Native.Nat.{ℕ, zero, suc, ◌+◌, ◌-◌, ◌/◌, ◌%◌, ◌<◌}
use mathlib.Core.Path.{◌≡◌, refl, ap, sym, subst, ◌∙◌}
use mathlib.Core.List.{List, [], ◌∷◌}
use mathlib.Core.Bool.{Bool, true, false, not, ◌&&◌, true≢false}
use native.Mathlib.Omega.{arith}
use native.Mathlib.Nat.{le_refl}
use borrow.Author.Tests.{eqb-true, lt-ltb, le-ltb, ltb-true, ltb-false}
use lib.Dec.{eqb, ltb}
use lib.ListN.{length, get_or, drop, length-drop, length-map}
use lib.Seq.{get_or-drop}
use Rattle.std.specs.Prelude.{if◌then◌else◌, Option, Some, None}
use Rattle.definition.specs.Words.{first_of}
use Rattle.definition.specs.Memory.{Memory}
use Rattle.definition.specs.Walk030.{Outcome, walk030, every_level, shift_of}
use Rattle.definition.specs.Walk040.{walk040, page_bits}
use Rattle.definition.specs.Cache030.{Entry, no_entry}
use Rattle.definition.specs.Cache040.{Slot, no_slot}
use Rattle.definition.specs.Refusal.{bad_base, bad_range, refusal_of}
use Rattle.definition.specs.Audit.{first_of_page, first_from, is_access_code, is_end030, is_end040, stale030, stale040, first_stale030, first_stale040, named, audit_family, audit_checks, audit_from}
use Rattle.definition.specs.declared.Registers.{Registers}
use Rattle.definition.specs.declared.End.{End}
use Rattle.definition.specs.declared.End.TheVariants.{Page, Invalid, LevelStop, BusError, Config}
use Rattle.definition.specs.declared.Audit.{Audit}
use Rattle.definition.proofs.Narrow.{narrow_030, end_narrow, narrow_040}
use Rattle.cache.specs.Packed.{odd}
use Rattle.cache.specs.Atc030.{entry_of, entries_of, tags_of, pages_of, stamps_of, shift_in, cache_of}
use Rattle.cache.specs.Atc040.{slot_of, slots_of, keys_of, bases_of, cache040_of}
use Rattle.cache.specs.Pair.{caches_of, SizedAll}
use Rattle.cache.proofs.Entries.{entries_get}
use Rattle.cache.proofs.Laws030.{level, entries_22}
use Rattle.cache.proofs.Parts.{part_length}
use Rattle.cache.proofs.Slots.{key_in, slots_get, slots_read, level_040}
use Rattle.audit.specs.declared.Auditing.{Auditing}
use Rattle.audit.specs.declared.Cached.{Cached}
use Rattle.audit.specs.declared.walking.Way.{Way}
use Rattle.audit.specs.declared.walking.Walks.{Walks}
use Rattle.audit.specs.Ways.{walks_of}
use Rattle.audit.specs.Machine.{going_to, done_by, going_from, at_shift, audit_refusal, begin_family, audit_begin, Begun, cached_at, way030, way040, way_for, wrapped_of, address_for, stale_by030, stale_by040, turned_of, audit_took}

-- ---- one entry
module _ (m : Memory) (g : Registers) where
  end_stamp : (t p st a : ℕ) (wp sup : Bool) (end : End) → is_end030 (entry_of t p 0) a wp sup end ≡ is_end030 (entry_of t p st) a wp sup end
  end_stamp t p st a wp sup (Page field consumed) = refl
  end_stamp t p st a wp sup (Invalid indirect) = refl
  end_stamp t p st a wp sup (BusError at) = refl
  end_stamp t p st a wp sup LevelStop = refl
  end_stamp t p st a wp sup Config = refl

  abbrev ends030 : Entry → ℕ → Outcome → Bool
  ends030 e a o = is_end030 e a o.found.wp o.found.sup o.end

  -- what the walk in 32 bits says of an entry is what the definition says
  pub by_030 : (t p st s : ℕ) → stale_by030 t p (wrapped_of (t / 16) s) (walks_of m g (wrapped_of (t / 16) s) (way030 t)) ≡ stale030 g m s (entry_of t p st)
  unfolding stale030
  by_030 t p st s = go (odd t && is_access_code (t / 2 % 8))
    where
      go : (b : Bool) → stale_by030 t p (wrapped_of (t / 16) s) (walks_of m g (wrapped_of (t / 16) s) (if b then Way.By030 (t / 2 % 8) else Way.Idle))
          ≡ (b && not (ends030 (entry_of t p st) (first_of_page (t / 16) s) (walk030 m g (first_of_page (t / 16) s) (t / 2 % 8) every_level)))
      go true =
          ap (λ (o : Outcome). not (ends030 (entry_of t p 0) (wrapped_of (t / 16) s) o)) (narrow_030 (first_of_page (t / 16) s) m g (t / 2 % 8) every_level)
          ∙ ap not (end_narrow (first_of_page (t / 16) s) (entry_of t p 0) _ _ (walk030 m g (first_of_page (t / 16) s) (t / 2 % 8) every_level).end)
          ∙ ap not (end_stamp t p st (first_of_page (t / 16) s) _ _ (walk030 m g (first_of_page (t / 16) s) (t / 2 % 8) every_level).end)
      go false = refl

  pub by_040 : (k b : ℕ) → stale_by040 g.tc k b (walks_of m g (wrapped_of (k / 4) (page_bits g.tc)) (way040 k)) ≡ stale040 g m (slot_of k b)
  unfolding stale040
  by_040 k b = go (odd k)
    where
      go : (v : Bool) → stale_by040 g.tc k b (walks_of m g (wrapped_of (k / 4) (page_bits g.tc)) (if v then Way.By040 (odd (k / 2)) else Way.Idle))
          ≡ (v && not (is_end040 g.tc (slot_of k b) (walk040 m g (first_of_page (k / 4) (page_bits g.tc)) (odd (k / 2))).end))
      go true = rw (narrow_040 (first_of_page (k / 4) (page_bits g.tc)) m g (odd (k / 2)))
      go false = refl

-- ---- the entries from i on
abbrev pub less_one : ℕ → ℕ
less_one zero = zero
less_one (suc n) = n

unfoldable pub rest_from : (ℕ → Bool) → (ℕ → Audit) → ℕ → ℕ → Audit
rest_from stale name i zero = Audit.Clean
rest_from stale name i (suc n) = if stale i then name i else rest_from stale name (i + 1) n

ltb_suc : (a b : ℕ) → ltb (suc a) (suc b) ≡ ltb a b
ltb_suc a b = go (ltb a b) refl
  where
    go : (x : Bool) → ltb a b ≡ x → ltb (suc a) (suc b) ≡ x
    go true e = lt-ltb (suc a) (suc b) (omega (arith, ltb-true a b e))
    go false e = le-ltb (suc a) (suc b) (omega (arith, ltb-false a b e))

-- the first that passes, from i on
pub rest_is : {X : Type 0} (p : X → Bool) (d : X) (stale : ℕ → Bool) (name : ℕ → Audit) (l : List X) (i : ℕ) → ((k : ℕ) → stale (i + k) ≡ p (get_or l k d))
    → rest_from stale name i (length l) ≡ (if ltb (first_of p l) (length l) then name (i + first_of p l) else Audit.Clean)
unfolding rest_from first_of
rest_is p d stale name [] i h = refl
rest_is {X} p d stale name (x ∷ l) i h =
    go (p x) (sym (ap stale (omega arith)) ∙ h 0)
    (rest_is p d stale name l (i + 1) (λ k. ap stale (omega arith) ∙ h (suc k)))
  where
    go : (b : Bool) → stale i ≡ b
        → rest_from stale name (i + 1) (length l) ≡ (if ltb (first_of p l) (length l) then name (i + 1 + first_of p l) else Audit.Clean)
        → (if stale i then name i else rest_from stale name (i + 1) (length l))
        ≡ (if ltb (if b then zero else suc (first_of p l)) (suc (length l)) then name (i + (if b then zero else suc (first_of p l))) else Audit.Clean)
    go true e k = rw (e, lt-ltb 0 (suc (length l)) (omega arith)) (ap name (omega arith))
    go false e k = rw (e, ltb_suc (first_of p l) (length l)) (k ∙ rw (add_suc))
      where
        add_suc : i + 1 + first_of p l ≡ i + suc (first_of p l)
        add_suc = omega arith

module _ (stale : ℕ → Bool) (name : ℕ → Audit) (last : ℕ) where
  abbrev pub rest : Auditing → ℕ → Audit
  rest s n = if s.over then s.answer else rest_from stale name s.i (suc n)

  abbrev pub rank : Auditing → ℕ → ℕ
  rank s n = if s.over then 0 else suc n

  -- r goes on to the answer a with fewer entries than d left
  pub record Follows (a : Audit) (d n : ℕ) (r : Auditing) : Type 0 where
    pub same : a ≡ rest r n
    pub less : rank r n < d
    pub room : r.over ≡ false → r.i + n ≡ last

  turned_on : (i n : ℕ) → i + n ≡ last → Follows (rest_from stale name i (suc n)) (suc n) (less_one n) (turned_of (stale i) i last (name i))
  unfolding rest_from
  turned_on i n e = go (stale i) n e
    where
      go : (b : Bool) (n : ℕ) → i + n ≡ last
          → Follows (if b then name i else rest_from stale name (i + 1) n) (suc n) (less_one n) (turned_of b i last (name i))
      go true n e = record { same = refl; less = omega arith; room = λ f. absurd (true≢false f) }
      go false zero e = rw (le-ltb i last (omega arith)) (record { same = refl; less = omega arith; room = λ f. absurd (true≢false f) })
      go false (suc n) e = rw (lt-ltb i last (omega arith)) (record { same = refl; less = omega arith; room = λ f. omega arith })

-- ---- where it begins
ltb_less : (a from size : ℕ) → ltb (a + from) size ≡ ltb a (size - from)
ltb_less a from size = go (ltb a (size - from)) refl
  where
    go : (x : Bool) → ltb a (size - from) ≡ x → ltb (a + from) size ≡ x
    go true e = lt-ltb (a + from) size (omega (arith, ltb-true a (size - from) e))
    go false e = le-ltb (a + from) size (omega (arith, ltb-false a (size - from) e))

-- the first that passes at `from` or above is what a run from there answers
named_rest : {X : Type 0} (p : X → Bool) (d : X) (stale : ℕ → Bool) (name mk : ℕ → Audit) (l : List X) (last from : ℕ) → length l ≡ suc last
    → ((k : ℕ) → stale k ≡ p (get_or l k d)) → ((k : ℕ) → name k ≡ mk k)
    → named mk (length l) (first_from p from l) ≡ rest stale name last (going_from from (suc last)) (last - from)
named_rest {X} p d stale name mk l last from e h j = go (ltb from (suc last)) refl
  where
    size : length (drop from l) ≡ suc last - from
    size = length-drop from l ∙ rw e

    first : ltb (first_from p from l) (length l) ≡ ltb (first_of p (drop from l)) (length (drop from l))
    first = ltb_less (first_of p (drop from l)) from (length l) ∙ rw (length-drop from l)

    go : (b : Bool) → ltb from (suc last) ≡ b
        → named mk (length l) (first_from p from l) ≡ rest stale name last (if b then going_to from else done_by Audit.Clean) (last - from)
    go true k =
        let n : suc (last - from) ≡ length (drop from l) = omega (arith, size, ltb-true from (suc last) k) in
        rw (n, first)
        (sym (rest_is p d stale name (drop from l) from (λ k. h (from + k) ∙ ap p (sym (get_or-drop from l k d)))
        ∙ rw (ap name swap ∙ j (first_from p from l))))
      where
        swap : from + first_of p (drop from l) ≡ first_from p from l
        swap = omega arith
    go false k = rw (le-ltb (first_from p from l) (length l) (omega (arith, e, ltb-false from (suc last) k)))

-- ---- the audit of two arrays
module _ (m : Memory) (g : Registers) (c3 c4 : List ℕ) (from : ℕ) where
  abbrev pub whole : Audit
  whole = audit_from g m (caches_of c3 c4) from

  abbrev entries : List Entry
  entries = entries_of (tags_of c3) (pages_of c3) (stamps_of c3)

  abbrev slots : List Slot
  slots = slots_of (keys_of c4) (bases_of c4)

  abbrev pub stale_at : ℕ → Bool
  stale_at i =
      if eqb g.family 30
      then stale030 g m (shift_in c3) (get_or entries i no_entry)
      else stale040 g m (get_or slots i no_slot)

  abbrev pub name_at : ℕ → Audit
  name_at i = if eqb g.family 30 then Audit.Stale030 i else Audit.Stale040 i

  abbrev pub last_at : ℕ
  last_at = if eqb g.family 30 then 21 else 63

  -- what is known at the loop's head; `n` entries are left after the next
  pub record Turn (s : Auditing) : Type 0 where
    pub n : ℕ
    pub same : whole ≡ rest stale_at name_at last_at s n
    pub room : s.over ≡ false → s.i + n ≡ last_at
    pub sized : SizedAll c3 c4

  -- how many entries are left, the next among them
  abbrev pub left : Auditing → ℕ
  left s = rank stale_at name_at last_at s (last_at - s.i)

  left_is : (s : Auditing) (n : ℕ) → (s.over ≡ false → s.i + n ≡ last_at) → rank stale_at name_at last_at s n ≡ left s
  left_is s n h = go s.over h
    where
      go : (b : Bool) → (b ≡ false → s.i + n ≡ last_at) → (if b then 0 else suc n) ≡ (if b then 0 else suc (last_at - s.i))
      go true h = refl
      go false h = omega (arith, h refl)

  -- ---- where it begins
  module _ (z : SizedAll c3 c4) where
    slots_64 : length (slots_of (keys_of c4) (bases_of c4)) ≡ 64
    slots_64 =
        let level = level_040 c4 z.sized040 in
        sym (length-map (slots_of (keys_of c4) (bases_of c4)) key_in) ∙ ap length (slots_read (keys_of c4) (bases_of c4) level).0
        ∙ part_length 0 64 c4 (omega (arith, z.sized040))

    begun_030 : (sh : Option ℕ) → eqb g.family 30 ≡ true
        → named (λ (i : ℕ). Audit.Stale030 i) (length (cache_of c3).entries) (first_stale030 g m (cache_of c3) from sh)
        ≡ rest stale_at name_at last_at (if at_shift (cache_of c3).shift sh then going_from from 22 else done_by Audit.Clean) (last_at - from)
    unfolding cache_of
    begun_030 None f = rw (le-ltb (length entries) (length entries) (le_refl _))
    begun_030 (Some s) f = go (eqb (shift_in c3) s) refl
      where
        go : (b : Bool) → eqb (shift_in c3) s ≡ b
            → named (λ (i : ℕ). Audit.Stale030 i) (length entries) (if b then first_from (stale030 g m s) from entries else length entries)
            ≡ rest stale_at name_at last_at (if b then going_from from 22 else done_by Audit.Clean) (last_at - from)
        go true e =
            let same : s ≡ shift_in c3 = sym (eqb-true (shift_in c3) s e) in
            let last : last_at ≡ 21 = rw f in
            rw same
            (named_rest (stale030 g m (shift_in c3)) no_entry stale_at name_at (λ (i : ℕ). Audit.Stale030 i) entries last_at from (entries_22 c3 z.sized ∙ rw f)
            (λ k. rw f) (λ k. rw f)
            ∙ rw last)
        go false e = rw (le-ltb (length entries) (length entries) (le_refl _))

    begun_040 : eqb g.family 30 ≡ false
        → named (λ (i : ℕ). Audit.Stale040 i) (length (cache040_of c4).slots) (first_stale040 g m (cache040_of c4) from)
        ≡ rest stale_at name_at last_at (going_from from 64) (last_at - from)
    unfolding cache040_of
    begun_040 f =
        let last : last_at ≡ 63 = rw f in
        named_rest (stale040 g m) no_slot stale_at name_at (λ (i : ℕ). Audit.Stale040 i) slots last_at from (slots_64 ∙ rw f) (λ k. rw f) (λ k. rw f)
        ∙ rw last

    begun_family : audit_family g m (caches_of c3 c4) from ≡ rest stale_at name_at last_at (begin_family g (cache_of c3) from) (last_at - from)
    unfolding audit_family
    begun_family = go (eqb g.family 30) refl
      where
        go : (b : Bool) → eqb g.family 30 ≡ b
            → (if b
            then named (λ (i : ℕ). Audit.Stale030 i) (length (cache_of c3).entries) (first_stale030 g m (cache_of c3) from (shift_of g.tc))
            else named (λ (i : ℕ). Audit.Stale040 i) (length (cache040_of c4).slots) (first_stale040 g m (cache040_of c4) from))
            ≡ rest stale_at name_at last_at
            (if b then (if at_shift (cache_of c3).shift (shift_of g.tc) then going_from from 22 else done_by Audit.Clean) else going_from from 64) (last_at - from)
        go true f = begun_030 (shift_of g.tc) f
        go false f = begun_040 f

    begun : whole ≡ rest stale_at name_at last_at (audit_begin g (bad_base m) (bad_range m) (cache_of c3) from) (last_at - from)
    unfolding audit_from audit_begin audit_refusal
    begun = go (eqb (refusal_of (audit_checks g m (caches_of c3 c4))) 0)
      where
        go : (b : Bool) → (if b then audit_family g m (caches_of c3 c4) from else Audit.Refused (refusal_of (audit_checks g m (caches_of c3 c4))))
            ≡ rest stale_at name_at last_at
            (if b then begin_family g (cache_of c3) from else done_by (Audit.Refused (refusal_of (audit_checks g m (caches_of c3 c4))))) (last_at - from)
        go true = begun_family
        go false = refl

    -- a beginning that goes on stands at an entry
    abbrev pub Opens : Auditing → Type 0
    Opens s = s.over ≡ false → s.i + (last_at - from) ≡ last_at

    opens_from : (size : ℕ) → suc last_at ≡ size → Opens (going_from from size)
    opens_from size e = go (ltb from size) refl
      where
        go : (b : Bool) → ltb from size ≡ b → Opens (if b then going_to from else done_by Audit.Clean)
        go true k f = omega (arith, e, ltb-true from size k)
        go false k f = absurd (true≢false f)

    opens_family : Opens (begin_family g (cache_of c3) from)
    opens_family = go (eqb g.family 30) (at_shift (cache_of c3).shift (shift_of g.tc)) refl
      where
        go : (b at : Bool) → eqb g.family 30 ≡ b
            → Opens (if b then (if at then going_from from 22 else done_by Audit.Clean) else going_from from 64)
        go true true e = opens_from 22 (rw e)
        go true false e = λ f. absurd (true≢false f)
        go false at e = opens_from 64 (rw e)

    opens : (two three : Bool) → Opens (audit_begin g two three (cache_of c3) from)
    unfolding audit_begin
    opens two three = go (eqb (audit_refusal g two three (cache_of c3)) 0)
      where
        go : (b : Bool) → Opens (if b then begin_family g (cache_of c3) from else done_by (Audit.Refused (audit_refusal g two three (cache_of c3))))
        go true = opens_family
        go false = λ f. absurd (true≢false f)

  module _ {two : Bool} (is-two : two ≡ bad_base m) {three : Bool} (is-three : three ≡ bad_range m) {s : Auditing}
      (b : Begun (audit_begin g two three (cache_of c3) from) s c3 c4) where
    opened : Opens b.sized s
    opened = subst (Opens b.sized) (sym b.begins) (opens b.sized two three)

    begin_same : whole ≡ rest stale_at name_at last_at s (last_at - from)
    begin_same = rw (b.begins, is-two, is-three) (begun b.sized)

    pub begin : Turn s
    begin = record { n = last_at - from; same = begin_same; room = opened; sized = b.sized }

  -- ---- a turn
  module _ (z : SizedAll c3 c4) (i : ℕ) where
    abbrev tag : ℕ
    tag = get_or (tags_of c3) i 0

    abbrev key : ℕ
    key = get_or (keys_of c4) i 0

    turn_030 : stale_by030 tag (get_or (pages_of c3) i 0) (wrapped_of (tag / 16) (shift_in c3)) (walks_of m g (wrapped_of (tag / 16) (shift_in c3)) (way030 tag))
        ≡ stale030 g m (shift_in c3) (get_or entries i no_entry)
    turn_030 =
        rw (entries_get (tags_of c3) (pages_of c3) (stamps_of c3) i (level c3 z.sized))
        (by_030 m g tag (get_or (pages_of c3) i 0) (get_or (stamps_of c3) i 0) (shift_in c3))

    turn_040 : stale_by040 g.tc key (get_or (bases_of c4) i 0) (walks_of m g (wrapped_of (key / 4) (page_bits g.tc)) (way040 key))
        ≡ stale040 g m (get_or slots i no_slot)
    turn_040 =
        rw (slots_get (keys_of c4) (bases_of c4) i (level_040 c4 z.sized040))
        (by_040 m g key (get_or (bases_of c4) i 0))

    abbrev here : Cached
    here = cached_at g c3 c4 i

    abbrev at : Bool → Cached
    at b =
        if b
        then record { key = tag; page = get_or (pages_of c3) i 0; shift = shift_in c3 }
        else record { key = key; page = get_or (bases_of c4) i 0; shift = page_bits g.tc }

    abbrev address : Bool → ℕ
    address b = if b then wrapped_of ((at b).key / 16) (at b).shift else wrapped_of ((at b).key / 4) (at b).shift

    abbrev way : Bool → Way
    way b = if b then way030 (at b).key else way040 (at b).key

    turn_is : audit_took g i here (address_for g here) (walks_of m g (address_for g here) (way_for g here)) ≡ turned_of (stale_at i) i last_at (name_at i)
    unfolding audit_took address_for way_for cached_at
    turn_is = go (eqb g.family 30)
      where
        go : (b : Bool) → (if b
            then turned_of (stale_by030 (at b).key (at b).page (address b) (walks_of m g (address b) (way b))) i 21 (Audit.Stale030 i)
            else turned_of (stale_by040 g.tc (at b).key (at b).page (walks_of m g (address b) (way b))) i 63 (Audit.Stale040 i))
            ≡ turned_of (if b then stale030 g m (shift_in c3) (get_or entries i no_entry) else stale040 g m (get_or slots i no_slot)) i
            (if b then 21 else 63) (if b then Audit.Stale030 i else Audit.Stale040 i)
        go true = ap (λ (b : Bool). turned_of b i 21 (Audit.Stale030 i)) turn_030
        go false = ap (λ (b : Bool). turned_of b i 63 (Audit.Stale040 i)) turn_040

  module _ {s : Auditing} (t : Turn s) {b : Bool} (eb : b ≡ s.over) where
    pub ends : b ≡ true → {x : Audit} → x ≡ s.answer → {a : Audit} → a ≡ x → a ≡ whole
    ends h ex ea = ea ∙ ex ∙ sym (t.same ∙ rw (sym eb ∙ h))

    module _ (h : b ≡ false) {x : Cached} (ex : x ≡ cached_at g c3 c4 s.i) {address : ℕ} (ea : address ≡ address_for g x) {way : Way} (ew : way ≡ way_for g x)
        {w : Walks} (walked : w ≡ walks_of m g address way) {r : Auditing} (er : r ≡ audit_took g s.i x address w) where
      going_on : s.over ≡ false
      going_on = sym eb ∙ h

      -- what the turn makes is what the definition says of the entry
      took_is : r ≡ turned_of (stale_at s.i) s.i last_at (name_at s.i)
      took_is = er ∙ rw (walked, ea, ew, ex) (turn_is t.sized s.i)

      follows : Follows stale_at name_at last_at (rest stale_at name_at last_at s t.n) (rank stale_at name_at last_at s t.n) (less_one t.n) r
      follows = rw (going_on, took_is) (turned_on stale_at name_at last_at s.i t.n (t.room going_on))

      pub less : left r < left s
      less = rw (← left_is s t.n t.room, ← left_is r (less_one t.n) follows.room) follows.less

      pub next : Turn r
      next = record { n = less_one t.n; same = t.same ∙ follows.same; room = follows.room; sized = t.sized }
