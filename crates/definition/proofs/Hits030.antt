-- A hit of the 68030 cache gives what the walk gives, where its entries are good: each has its walk, over a memory where the longs of the walk read the
-- same as now. Assumes nothing.
use Rattle.std.specs.Prelude.{Option, Some, None}
use Prim.Native.Nat.{ℕ, ◌/◌, ◌^◌, ◌<◌}
use mathlib.Core.Path.{◌≡◌, refl, ap, sym, subst, ◌∙◌}
use mathlib.Core.List.{List}
use mathlib.Core.Bool.{Bool, true, false, not, ◌&&◌, false≢true}
use native.Mathlib.Omega.{arith}
use borrow.Author.Tests.{ltb-true, eqb-true}
use lib.Dec.{eqb}
use lib.ListN.{length, get_or}
use Rattle.definition.specs.Words.{bit_of, first_of}
use Rattle.definition.specs.Memory.{Memory}
use Rattle.definition.specs.Walk030.{Outcome, walk030, every_level, physical_of, shift_of}
use Rattle.definition.specs.Cache030.{Entry, Cache030, no_entry, empty030, matches, matching, found, permitted, hit_of, after_hit}
use Rattle.definition.specs.Translate.{hit_address, Searched, on_end030, concluded030, search030, on_hit030, with030}
use Rattle.definition.specs.Audit.{is_access_code}
use Rattle.definition.specs.declared.End.{End}
use Rattle.definition.specs.declared.End.TheVariants.{Page, Invalid, LevelStop, BusError, Config}
use Rattle.definition.specs.declared.Registers.{Registers}
use Rattle.definition.specs.declared.Translation.TheVariants.{Address}
use Rattle.definition.proofs.Choice.{if_by, if_both, if_alike, and_left, and_right}
use Rattle.definition.proofs.Lists.{All, all_get, all_replicate, first_passes}
use Rattle.definition.proofs.Agree.{Throughout}
use Rattle.definition.proofs.Asked030.{asked_030}
use Rattle.definition.proofs.Page030.{page_030, base_030, consumed_030}
use Rattle.definition.proofs.Entries030.{Walked030, OfEntries, New030}

-- ---- what a search answers and asks for does not depend on the cache
end_answer : (tc : ℕ) (c c' : Cache030) (code address : ℕ) (write wp sup : Bool) (asked : List ℕ) (e : End)
    → (on_end030 tc c code address write wp sup asked e).answer ≡ (on_end030 tc c' code address write wp sup asked e).answer
end_answer tc c c' code address write wp sup asked (Page field consumed) =
    if_alike (λ (s : Searched). s.answer) (sup && not (bit_of code 2)) _ _ _ _ (λ _. refl) (λ _. refl)
end_answer tc c c' code address write wp sup asked (Invalid indirect) = refl
end_answer tc c c' code address write wp sup asked LevelStop = refl
end_answer tc c c' code address write wp sup asked (BusError at) = refl
end_answer tc c c' code address write wp sup asked Config = refl

end_asked : (tc : ℕ) (c : Cache030) (code address : ℕ) (write wp sup : Bool) (asked : List ℕ) (e : End)
    → (on_end030 tc c code address write wp sup asked e).asked ≡ asked
end_asked tc c code address write wp sup asked (Page field consumed) =
    if_both (λ (s : Searched). s.asked ≡ asked) (sup && not (bit_of code 2)) _ _ refl refl
end_asked tc c code address write wp sup asked (Invalid indirect) = refl
end_asked tc c code address write wp sup asked LevelStop = refl
end_asked tc c code address write wp sup asked (BusError at) = refl
end_asked tc c code address write wp sup asked Config = refl

module _ (g : Registers) (m : Memory) (code address : ℕ) (write : Bool) where
  pub search_answer : (c c' : Cache030) → (search030 g m c code address write).answer ≡ (search030 g m c' code address write).answer
  unfolding search030
  search_answer c c' = end_answer g.tc c c' code address write _ _ _ (walk030 m g address code every_level).end

  pub search_asked : (c : Cache030) → (search030 g m c code address write).asked ≡ (walk030 m g address code every_level).found.asked
  unfolding search030
  search_asked c = end_asked g.tc c code address write _ _ _ (walk030 m g address code every_level).end

-- ---- the entry that hits
pub no_hit : {X : Type 0} (base : ℕ) → None ≡ Some base → X
no_hit base e = let z : ◌≡◌ {A = ℕ} 0 1 = cc in absurd (omega arith)

matching_matches : (c : Cache030) (code page : ℕ) → matching c code page < length c.entries
    → matches code page (get_or c.entries (matching c code page) no_entry) ≡ true
unfolding matching
matching_matches c code page =
    if_by (λ (n : ℕ). n < length c.entries → matches code page (get_or c.entries n no_entry) ≡ true)
    (matches code page (get_or c.entries c.recent no_entry)) c.recent (first_of (matches code page) c.entries) (λ t l. t)
    (λ f l. first_passes (matches code page) c.entries no_entry l)

-- an entry that matches is valid, and has the key
pub key_of : (code page : ℕ) (e : Entry) → matches code page e ≡ true → (e.valid ≡ true) × ((e.code ≡ code) × (e.page ≡ page))
key_of code page e t =
    let key = and_right e.valid _ t in
    (and_left e.valid _ t, (eqb-true e.code code (and_left _ _ key), eqb-true e.page page (and_right (eqb e.code code) _ key)))

-- an entry of which B holds, with the key of an access that it permits
pub record Met030 (B : ℕ → Entry → Type 0) (s code page base : ℕ) (write : Bool) : Type 0 where
  pub entry : Entry
  pub held : B s entry
  pub key : matches code page entry ≡ true
  pub permits : permitted write entry ≡ Some base

-- a hit has met one
pub met_030 : (B : ℕ → Entry → Type 0) → ((s : ℕ) → B s no_entry) → (c : Cache030) (code page s base : ℕ) (write : Bool) → All (B c.shift) c.entries
    → hit_of c code page s write ≡ Some base → Met030 B s code page base write
unfolding hit_of
met_030 B none c code page s base write h =
    if_by (λ (hit : Option ℕ). hit ≡ Some base → Met030 B s code page base write) (found c code page s) _ _
    (λ t e.
    let same = eqb-true c.shift s (and_left (eqb c.shift s) _ t) in
    let there = ltb-true (matching c code page) (length c.entries) (and_right (eqb c.shift s) _ t) in
    record {
      entry = get_or c.entries (matching c code page) no_entry;
      held =
          subst (λ (n : ℕ). B n (get_or c.entries (matching c code page) no_entry)) same
          (all_get (B c.shift) c.entries (matching c code page) no_entry (none c.shift) h);
      key = matching_matches c code page there;
      permits = e;
    })
    (λ f e. no_hit base e)

-- a hit with this base has its walk over a memory of P, and does not write where WP is
pub record Hits030 (g : Registers) (P : Memory → Type 0) (s code page base : ℕ) (write : Bool) : Type 0 where
  pub over : Memory
  pub seen : P over
  pub wp : Bool
  pub walked : Walked030 g over s code page base wp
  pub may : (write && wp) ≡ false

-- an entry that accesses under g can meet is good: each read or write that it permits has such a walk
abbrev pub Good030 : Registers → (Memory → Type 0) → ℕ → Entry → Type 0
Good030 g P s e =
    eqb g.family 30 ≡ true → shift_of g.tc ≡ Some s → e.valid ≡ true → is_access_code e.code ≡ true
    → (write : Bool) → (write && e.wp) ≡ false → Hits030 g P s e.code e.page e.base write

module _ (g : Registers) (P : Memory → Type 0) where
  pub good_entries : OfEntries (Good030 g P)
  good_entries = record { invalid = λ s e f a b v. absurd (false≢true (sym f ∙ v)); again = λ s n e k. k }

  -- what a walk finds is good
  pub good_new : (m : Memory) → P m → New030 (Good030 g P) g m
  good_new m p s n code page base wp w a b v d write f = record { over = m; seen = p; wp = wp; walked = w; may = f }

  entry_hits : (e : Entry) (s code page base : ℕ) (write : Bool) → eqb g.family 30 ≡ true → shift_of g.tc ≡ Some s → is_access_code code ≡ true
      → Good030 g P s e → matches code page e ≡ true → permitted write e ≡ Some base → Hits030 g P s code page base write
  entry_hits e s code page base write family sh a k t =
      let key = key_of code page e t in
      if_by (λ (hit : Option ℕ). hit ≡ Some base → Hits030 g P s code page base write) (write && e.wp) _ _
      (λ t h. no_hit base h)
      (λ f h.
      let base_is : e.base ≡ base = cc in
      let hits = k family sh key.0 (rw key.1.0 a) write f in
      rw (key.1.0, key.1.1, base_is) at hits)

  pub hit_030 : (c : Cache030) (code page s base : ℕ) (write : Bool) → eqb g.family 30 ≡ true → shift_of g.tc ≡ Some s → is_access_code code ≡ true
      → All (Good030 g P c.shift) c.entries → hit_of c code page s write ≡ Some base → Hits030 g P s code page base write
  hit_030 c code page s base write family sh a h e =
      let met = met_030 (Good030 g P) (λ s. good_entries.invalid s no_entry refl) c code page s base write h e in
      entry_hits met.entry s code page base write family sh a met.held met.key met.permits

  -- ---- a hit answers as a search does
  page_answer : (c : Cache030) (code address field consumed : ℕ) (write wp : Bool) (o : Outcome) → o.end ≡ Page field consumed → o.found.wp ≡ wp
      → (o.found.sup && not (bit_of code 2)) ≡ false → (write && wp) ≡ false
      → (concluded030 g.tc c code address write o).answer ≡ Address (physical_of field consumed address)
  page_answer c code address field consumed write wp o e p a f = rw (e, p, a, f)

  module _ (m : Memory) (code address : ℕ) (write : Bool) (steady : Throughout P m (walk030 m g address code every_level).found.asked) where
    hit_answer : (c : Cache030) (s base : ℕ) → Hits030 g P s code (address / 2 ^ s) base write
        → Address (hit_address base address s) ≡ (search030 g m c code address write).answer
    unfolding search030
    hit_answer c s base k =
        let w = k.walked in
        let same : walk030 m g address code every_level ≡ walk030 k.over g w.address code every_level =
        asked_030 m k.over g address code every_level (steady k.over k.seen)
        ∙ page_030 address w.address s (sym w.at) k.over g code every_level w.shift in
        let left = consumed_030 k.over g w.address code every_level s w.field w.consumed w.shift w.end in
        ap (λ (b : ℕ). Address (hit_address b address s)) (sym w.based)
        ∙ ap Address (base_030 w.address address s w.at w.field w.consumed left)
        ∙ sym (page_answer c code address w.field w.consumed write k.wp (walk030 k.over g w.address code every_level)
        w.end w.protect w.allowed k.may)
        ∙ ap (λ (o : Outcome). (concluded030 g.tc c code address write o).answer) (sym same)

    -- the law: with good entries a translation answers as a search from the empty cache
    pub with_answer : (c : Cache030) (recorded : Bool) (sh : Option ℕ) → eqb g.family 30 ≡ true → shift_of g.tc ≡ sh → is_access_code code ≡ true
        → All (Good030 g P c.shift) c.entries
        → (with030 g m c recorded code address write sh).answer ≡ (search030 g m empty030 code address write).answer
    with_answer c recorded None family e a h = search_answer g m code address write c empty030
    with_answer c recorded (Some s) family e a h = go (hit_of c code (address / 2 ^ s) s write) refl
      where
        go : (hit : Option ℕ) → hit_of c code (address / 2 ^ s) s write ≡ hit
            → (on_hit030 g m (after_hit c recorded code (address / 2 ^ s) s) code address write s hit).answer
            ≡ (search030 g m empty030 code address write).answer
        go (Some base) f = hit_answer empty030 s base (hit_030 c code (address / 2 ^ s) s base write family e a h f)
        go None f = search_answer g m code address write _ empty030

-- ---- the cacheless walk: the empty cache has no entry to meet
empty_misses : (code page s : ℕ) (write : Bool) → hit_of empty030 code page s write ≡ None
empty_misses code page s write = go (hit_of empty030 code page s write) refl
  where
    go : (hit : Option ℕ) → hit_of empty030 code page s write ≡ hit → hit ≡ None
    go (Some base) e =
        let met = met_030 (λ s e. e.valid ≡ false) (λ s. refl) empty030 code page s base write
        (all_replicate (λ (e : Entry). e.valid ≡ false) 22 no_entry refl) e in
        absurd (false≢true (sym met.held ∙ and_left met.entry.valid _ met.key))
    go None e = refl

module _ (g : Registers) (m : Memory) (code address : ℕ) (write recorded : Bool) where
  pub empty_answer : (sh : Option ℕ)
      → (with030 g m empty030 recorded code address write sh).answer ≡ (search030 g m empty030 code address write).answer
  empty_answer None = refl
  empty_answer (Some s) = rw (empty_misses code (address / 2 ^ s) s write) (search_answer g m code address write _ empty030)

  pub empty_asked : (sh : Option ℕ)
      → (with030 g m empty030 recorded code address write sh).asked ≡ (walk030 m g address code every_level).found.asked
  empty_asked None = search_asked g m code address write empty030
  empty_asked (Some s) = rw (empty_misses code (address / 2 ^ s) s write) (search_asked g m code address write _)
