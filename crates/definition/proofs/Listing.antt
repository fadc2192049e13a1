-- Request 01, what a reader leans on: each listed range agrees with the cacheless walk at every address in it; an address in no listed range faults as
-- invalid; lists that are broken off and gone on with make the unbroken one. Assumes nothing.
use Prim.Native.Nat.{ℕ, ◌+◌, ◌-◌, ◌*◌, ◌/◌, ◌%◌, ◌^◌, ◌<◌, ◌≤◌}
use mathlib.Core.Path.{◌≡◌, refl, sym, ap, subst, ◌∙◌}
use mathlib.Core.List.{List, [], ◌∷◌, ◌++◌, append-nil}
use mathlib.Core.Bool.{Bool, true, false, not, ◌&&◌}
use mathlib.Core.Logic.{inl, inr}
use native.Mathlib.Omega.{arith}
use native.Mathlib.Nat.{mod-le}
use borrow.Author.Tests.{eq-eqb}
use lib.Dec.{eqb}
use lib.ListN.{length, take, drop, take-append-drop}
use Rattle.std.specs.Prelude.{if◌then◌else◌}
use Rattle.definition.specs.Words.{bit_of}
use Rattle.definition.specs.Memory.{Memory}
use Rattle.definition.specs.Registers.{on, walk_code, compared_code, as_instruction}
use Rattle.definition.specs.Transparent.{transparent}
use Rattle.definition.specs.Walk030.{Outcome, walk030, every_level, low_of, physical_of, shift_of}
use Rattle.definition.specs.Cache030.{empty030}
use Rattle.definition.specs.Refusal.{refusal_of}
use Rattle.definition.specs.Translate.{empty_caches, searched, cached, violation, bus_error, on_end030, concluded030, search030, translate030, in_order, translate_checks, translate, cacheless}
use Rattle.definition.proofs.Replay.{In}
use Rattle.definition.specs.List.{mapped, ranges_from, Listing, stopping, room_for, not_taken, list_checks, list}
use Rattle.definition.specs.declared.End.{End}
use Rattle.definition.specs.declared.End.TheVariants.{Page, Invalid, LevelStop, BusError, Config}
use Rattle.definition.specs.declared.FaultCause.TheVariants as cause
use Rattle.definition.specs.declared.Translation.{Translation}
use Rattle.definition.specs.declared.Registers.{Registers}
use Rattle.definition.specs.declared.Access.{Access}
use Rattle.definition.specs.declared.Mapped.{Mapped}
use Rattle.definition.specs.declared.Listed.{Listed}
use Rattle.definition.specs.declared.Listed.TheVariants as listed
use Rattle.definition.proofs.Hits030 as hits030
use Rattle.definition.proofs.Ascending.{Between, joined, from_start}
use Rattle.definition.proofs.Mapping.{covers, covering, page_over, lost_over, Said, Taken, taken, mapped_says, mapped_ascends}

-- ---- an access, and the range that has its address
-- an access of a code that is not refused, with the PMMU on and no TT enabled
pub record Plain (g : Registers) (m : Memory) (code : ℕ) (a : Access) : Type 0 where
  pub code_is : walk_code a ≡ code
  pub accepted : refusal_of (translate_checks g a m empty_caches) ≡ 0
  pub on_is : on g ≡ true
  pub tt0 : bit_of g.tt0 15 ≡ false
  pub tt1 : bit_of g.tt1 15 ≡ false
  pub narrow : a.address < 2 ^ 32

-- what a range says of an access to an address in it: 'S and a user's code give SupervisorProtect; else WP and a write give WriteProtect; else start + offset,
-- wrapping'; one that can't be fetched gives the bus error
abbrev pub AnsweredBy : Bool → Mapped → ℕ → ℕ → Bool → Translation → Type 0
AnsweredBy true x code address write t = (at : ℕ) × (t ≡ bus_error at)
AnsweredBy false x code address write t =
    t
    ≡ (if x.sup && not (bit_of code 2)
    then violation cause.SupervisorProtect address
    else if write && x.wp then violation cause.WriteProtect address else Translation.Address ((x.physical + (address - x.first)) % 2 ^ 32))

abbrev pub Answered : Mapped → ℕ → ℕ → Bool → Translation → Type 0
Answered x code address write t = AnsweredBy x.lost x code address write t

-- ---- the cacheless walk of such an access is the tables' own
module _ (g : Registers) (m : Memory) (code : ℕ) (a : Access) (t : Taken g code) (p : Plain g m code a) where
  no_match : transparent g a.address (compared_code a) (as_instruction a) a.write ≡ false
  unfolding transparent
  no_match = rw (t.family, p.tt0, p.tt1)

  from_tables : (cacheless g a m).answer ≡ (concluded030 g.tc empty030 code a.address a.write (walk030 m g a.address code every_level)).answer
  unfolding translate in_order translate030 search030
  from_tables =
      rw (eq-eqb (refusal_of (translate_checks g a m empty_caches)) 0 p.accepted, p.on_is, no_match, t.family, p.code_is)
      (hits030.empty_answer g m code a.address a.write a.recorded (shift_of g.tc))

-- ---- what a walk's end answers
page_answers : (tc code address field consumed : ℕ) (write wp sup : Bool) (asked : List ℕ)
    → Answered (page_over address field consumed wp sup) code address write (on_end030 tc empty030 code address write wp sup asked (Page field consumed)).answer
page_answers tc code address field consumed write wp sup asked = go (sup && not (bit_of code 2))
  where
    same : physical_of field consumed address ≡ (field / 256 * 256 + (address - (address - low_of address consumed))) % 2 ^ 32
    same =
        let l : low_of address consumed ≤ address = mod-le address (2 ^ (32 - consumed)) in
        let e : address - (address - low_of address consumed) ≡ low_of address consumed = omega arith in
        rw e

    go : (b : Bool)
        → (if b
        then searched (violation cause.SupervisorProtect address) asked empty030
        else searched (if write && wp then violation cause.WriteProtect address else Translation.Address (physical_of field consumed address)) asked
        (cached (shift_of tc) empty030 code address (physical_of field consumed address) wp)).answer
        ≡ (if b
        then violation cause.SupervisorProtect address
        else if write && wp then violation cause.WriteProtect address else Translation.Address ((field / 256 * 256 + (address - (address - low_of address consumed))) % 2 ^ 32))
    go true = refl
    go false = ap (λ (n : ℕ). if write && wp then violation cause.WriteProtect address else Translation.Address n) same

in_covering : (a : ℕ) (x : Mapped) (xs : List Mapped) → In x xs → covers a x ≡ true → In x (covering a xs)
unfolding covering
in_covering a x [] x3 c = elim x3 [ ]
in_covering a x (y ∷ ys) (inl e) c = subst (λ (z : Mapped). In x (if covers a z then z ∷ covering a ys else covering a ys)) e (rw c (inl refl))
in_covering a x (y ∷ ys) (inr i) c = go (covers a y) (in_covering a x ys i c)
  where
    go : (b : Bool) → In x (covering a ys) → In x (if b then y ∷ covering a ys else covering a ys)
    go true i = inr i
    go false i = i

in_one : (x y : Mapped) → In x (y ∷ []) → x ≡ y
in_one x y (inl e) = e
in_one x y (inr i) = absurd i

-- where the ranges that have the address are what the walk's end says, each of them answers as the walk does
range_answers : (tc code address : ℕ) (write wp sup : Bool) (asked : List ℕ) (end : End) (xs : List Mapped) (x : Mapped) → Said address wp sup end xs → In x xs
    → Answered x code address write (on_end030 tc empty030 code address write wp sup asked end).answer
range_answers tc code address write wp sup asked (Page field consumed) xs x s i =
    let e : x ≡ page_over address field consumed wp sup = in_one x _ (subst (In x) s i) in
    rw e (page_answers tc code address field consumed write wp sup asked)
range_answers tc code address write wp sup asked (BusError at) xs x s i =
    let e : x ≡ lost_over address s.0 = in_one x _ (subst (In x) s.1 i) in
    rw e (at, refl)
range_answers tc code address write wp sup asked (Invalid indirect) xs x s i = absurd (subst (In x) s i)
range_answers tc code address write wp sup asked LevelStop xs x s i = absurd s
range_answers tc code address write wp sup asked Config xs x s i = absurd s

-- an address that no range has: 'Invalid: PageFault, or Indirect for a bad target'
abbrev pub FaultsInvalid : ℕ → Translation → Type 0
FaultsInvalid address t = (indirect : Bool) × (t ≡ violation (if indirect then cause.Indirect else cause.PageFault) address)

none_faults : (tc code address : ℕ) (write wp sup : Bool) (asked : List ℕ) (end : End) (xs : List Mapped) → Said address wp sup end xs → xs ≡ []
    → FaultsInvalid address (on_end030 tc empty030 code address write wp sup asked end).answer
none_faults tc code address write wp sup asked (Page field consumed) xs s e = absurd (let z : 1 ≡ 0 = ap length (sym s ∙ e) in omega arith)
none_faults tc code address write wp sup asked (BusError at) xs s e = absurd (let z : 1 ≡ 0 = ap length (sym s.1 ∙ e) in omega arith)
none_faults tc code address write wp sup asked (Invalid indirect) xs s e = (indirect, refl)
none_faults tc code address write wp sup asked LevelStop xs s e = absurd s
none_faults tc code address write wp sup asked Config xs s e = absurd s

module _ (g : Registers) (m : Memory) (code : ℕ) (a : Access) (t : Taken g code) (p : Plain g m code a) where
  its_walk : Outcome
  its_walk = walk030 m g a.address code every_level

  -- the theorem: a listed range agrees with the cacheless walk of every access to an address in it, read or write, user or supervisor
  pub listed_agrees : (x : Mapped) → In x (mapped g m code) → covers a.address x ≡ true → Answered x code a.address a.write (cacheless g a m).answer
  unfolding its_walk
  listed_agrees x i c =
      rw (from_tables g m code a t p)
      (range_answers g.tc code a.address a.write its_walk.found.wp its_walk.found.sup its_walk.found.asked its_walk.end
      (covering a.address (mapped g m code)) x (mapped_says g m code t a.address p.narrow) (in_covering a.address x (mapped g m code) i c))

  -- the theorem: an access to an address that no listed range has faults as invalid
  pub unlisted_faults : covering a.address (mapped g m code) ≡ [] → FaultsInvalid a.address (cacheless g a m).answer
  unfolding its_walk
  unlisted_faults e =
      rw (from_tables g m code a t p)
      (none_faults g.tc code a.address a.write its_walk.found.wp its_walk.found.sup its_walk.found.asked its_walk.end
      (covering a.address (mapped g m code)) (mapped_says g m code t a.address p.narrow) e)

-- ---- just one range
-- a walk that ends in a page or a bus error
abbrev pub Ended : End → Type 0
Ended (Page field consumed) = Unit {0}
Ended (BusError at) = Unit {0}
Ended (Invalid indirect) = ⊥
Ended LevelStop = ⊥
Ended Config = ⊥

just_one : (a : ℕ) (wp sup : Bool) (end : End) (xs : List Mapped) → Said a wp sup end xs → Ended end → length xs ≡ 1
just_one a wp sup (Page field consumed) xs s h = rw s
just_one a wp sup (BusError at) xs s h = rw s.1
just_one a wp sup (Invalid indirect) xs s h = absurd h
just_one a wp sup LevelStop xs s h = absurd h
just_one a wp sup Config xs s h = absurd h

-- the theorem: an address whose walk ends in a page or a bus error lies in just one listed range
pub found_once : (g : Registers) (m : Memory) (code address : ℕ) → Taken g code → address < 2 ^ 32 → Ended (walk030 m g address code every_level).end
    → length (covering address (mapped g m code)) ≡ 1
found_once g m code address t low h = just_one address _ _ (walk030 m g address code every_level).end _ (mapped_says g m code t address low) h

-- ---- lists that are broken off
-- which of its cases an answer is
which : Listed → ℕ
which (listed.All count) = 0
which (listed.More count next) = 1
which (listed.Refused n) = 2

next_of : Listed → ℕ
next_of (listed.All count) = 0
next_of (listed.More count next) = next
next_of (listed.Refused n) = 0

-- a list with room for all of them
all_of : (room count : ℕ) (xs : List Mapped) → stopping (length (take room xs)) (drop room xs) ≡ listed.All count → take room xs ≡ xs
unfolding which
all_of room count xs = go (drop room xs) refl
  where
    go : (ys : List Mapped) → drop room xs ≡ ys → stopping (length (take room xs)) ys ≡ listed.All count → take room xs ≡ xs
    go [] e s = sym (append-nil (take room xs)) ∙ ap (λ (l : List Mapped). take room xs ++ l) (sym e) ∙ take-append-drop room xs
    go (y ∷ ys) e s = absurd (let z : 1 ≡ 0 = ap which s in omega arith)

-- one that is broken off, and the ranges from the one on that found no room
some_of : (room count next from : ℕ) (items : List Mapped) → Between 0 items (2 ^ 32)
    → stopping (length (take room (ranges_from from items))) (drop room (ranges_from from items)) ≡ listed.More count next
    → take room (ranges_from from items) ++ ranges_from next items ≡ ranges_from from items
unfolding which next_of
some_of room count next from items b = go (drop room (ranges_from from items)) refl
  where
    go : (ys : List Mapped) → drop room (ranges_from from items) ≡ ys → stopping (length (take room (ranges_from from items))) ys ≡ listed.More count next
        → take room (ranges_from from items) ++ ranges_from next items ≡ ranges_from from items
    go [] e s = absurd (let z : 0 ≡ 1 = ap which s in omega arith)
    go (y ∷ ys) e s =
        let n : y.first ≡ next = ap next_of s in
        rw (← n) (joined items from room y ys b e)

module _ (g : Registers) (m : Memory) (code : ℕ) where
  -- lists one after the other, each from where the one before it says to go on, into any room; and all that they list
  pub data Parts : ℕ → List Mapped → Type 0 where
    last : (from room count : ℕ) → (list g m code from room).answer ≡ listed.All count → Parts from (list g m code from room).ranges
    more : (from room count next : ℕ) {rest : List Mapped} → (list g m code from room).answer ≡ listed.More count next → Parts next rest
        → Parts from ((list g m code from room).ranges ++ rest)

  -- what a list says that is not refused
  record Told (from room : ℕ) : Type 0 where
    takes : Taken g code
    says : list g m code from room ≡ room_for room (ranges_from from (mapped g m code))

  told : (from room : ℕ) → which (list g m code from room).answer < 2 → Told from room
  unfolding list which
  told from room = go (eqb (refusal_of (list_checks g m code)) 0) (not_taken g code) refl refl
    where
      go : (b c : Bool) → eqb (refusal_of (list_checks g m code)) 0 ≡ b → not_taken g code ≡ c → which (list g m code from room).answer < 2 → Told from room
      go true true e f n = absurd (let z : 2 < 2 = rw (e, f) at n in omega arith)
      go true false e f n = record { takes = taken g code f; says = rw (e, f) }
      go false c e f n = absurd (let z : 2 < 2 = rw e at n in omega arith)

  -- the theorem: the joined lists equal the unbroken one
  pub parts_joined : {from : ℕ} {xs : List Mapped} → Parts from xs → xs ≡ ranges_from from (mapped g m code)
  unfolding which
  parts_joined (last from room count e) =
      let k = told from room (rw e (omega arith)) in
      ap (λ (l : Listing). l.ranges) k.says ∙ all_of room count _ (sym (ap (λ (l : Listing). l.answer) k.says) ∙ e)
  parts_joined (more from room count next {rest} e p) =
      let k = told from room (rw e (omega arith)) in
      let r = parts_joined p in
      let one : (list g m code from room).ranges ≡ take room (ranges_from from (mapped g m code)) = ap (λ (l : Listing). l.ranges) k.says in
      rw (one, r)
      (some_of room count next from (mapped g m code) (mapped_ascends g m code k.takes) (sym (ap (λ (l : Listing). l.answer) k.says) ∙ e))

  -- from 0 on they are every mapped range
  pub parts_whole : {xs : List Mapped} → Parts 0 xs → xs ≡ mapped g m code
  parts_whole p = parts_joined p ∙ from_start (mapped g m code)
