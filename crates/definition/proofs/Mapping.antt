-- Request 01: the listed ranges that have an address are what the walk of that address finds: one for a page or a bus error, none where it faults as
-- invalid. So each listed range agrees with the cacheless walk at every address in it, and every mapped address lies in just one. Assumes nothing.
use Prim.Native.Nat.{ℕ, zero, suc, ◌+◌, ◌-◌, ◌*◌, ◌/◌, ◌%◌, ◌^◌, ◌<◌, ◌≤◌}
use mathlib.Core.Path.{◌≡◌, refl, sym, ap, subst, ◌∙◌}
use mathlib.Core.List.{List, [], ◌∷◌, ◌++◌, append-nil}
use mathlib.Core.Bool.{Bool, true, false, not, ◌&&◌, ◌||◌, true≢false}
use native.Mathlib.Omega.{arith}
use native.Mathlib.Decide.{dec_le}
use native.Mathlib.Nat.{suc-mul, mul-le-mul_right}
use borrow.Author.Tests.{lt-ltb, le-ltb, le-leb, lt-leb, eqb-true, eqb-false, ltb-false, not-false}
use lib.ListN.{length}
use lib.Pow.{pow_pos}
use lib.Dec.{ltb, leb, eqb}
use Rattle.std.specs.Prelude.{if◌then◌else◌}
use Rattle.definition.specs.Words.{bit_of}
use Rattle.definition.specs.Memory.{Memory}
use Rattle.definition.specs.Registers.{root_of}
use Rattle.definition.specs.Walk030.{read_of, steps, Found, Outcome, asking, deeper, guarded, on_target, on_table, on_descriptor, walk_from, start, walk_steps, steps_with, walk030, every_level, low_of, widths_of, used, is_of, sum_of}
use Rattle.definition.specs.List.{page_at, lost_at, seen_target, table_at, seen_by, seen_of, entry_at, gather, ranges_in, none_left, table_ranges, entry_ranges, root_table, code_entry, tree_ranges, mapped, end_of, not_taken}
use Rattle.definition.specs.Audit.{is_access_code}
use Rattle.definition.specs.Walk030.{Descriptor, Whole, Lost}
use Rattle.definition.specs.declared.End.{End}
use Rattle.definition.specs.declared.End.TheVariants.{Page, Invalid, LevelStop, BusError, Config}
use Rattle.definition.specs.declared.Registers.{Registers}
use Rattle.definition.specs.declared.Root.{Root}
use Rattle.definition.specs.declared.Mapped.{Mapped}
use Rattle.definition.specs.declared.Node.{Node}
use Rattle.definition.specs.declared.Seen.{Seen}
use Rattle.definition.specs.declared.Seen.TheVariants.{One, Opens}
use Rattle.definition.proofs.Choice.{if_both, or_left, or_right}
use Rattle.definition.proofs.Stretches.{Aligned, every_address, offset, stretch, Lies, lies, Fits, fits_most}
use Rattle.definition.proofs.Ascending.{Between, nil, cons, in_order, between_gather, table_inside, entry_inside}

-- ---- the ranges that have an address
abbrev pub covers : ℕ → Mapped → Bool
covers a x = leb x.first a && ltb a (end_of x)

unfoldable pub covering : ℕ → List Mapped → List Mapped
covering a [] = []
covering a (x ∷ xs) = if covers a x then x ∷ covering a xs else covering a xs

-- the range of an address by a page's field, with the bits consumed, WP and S
abbrev pub page_over : ℕ → ℕ → ℕ → Bool → Bool → Mapped
page_over a field consumed wp sup =
    record { first = a - low_of a consumed; consumed = consumed; physical = field / 256 * 256; wp = wp; sup = sup; lost = false }

abbrev pub lost_over : ℕ → ℕ → Mapped
lost_over a consumed =
    record { first = a - low_of a consumed; consumed = consumed; physical = 0; wp = false; sup = false; lost = true }

-- what a walk's end says of the ranges that have its address
abbrev pub Said : ℕ → Bool → Bool → End → List Mapped → Type 0
Said a wp sup (Page field consumed) xs = xs ≡ page_over a field consumed wp sup ∷ []
Said a wp sup (BusError at) xs = (consumed : ℕ) × (xs ≡ lost_over a consumed ∷ [])
Said a wp sup (Invalid indirect) xs = xs ≡ []
Said a wp sup LevelStop xs = ⊥
Said a wp sup Config xs = ⊥

abbrev pub Says : ℕ → Outcome → List Mapped → Type 0
Says a o xs = Said a o.found.wp o.found.sup o.end xs

-- ---- lists in a row: only one of them can have the address
module _ (a : ℕ) where
  covering_append : (xs ys : List Mapped) → covering a (xs ++ ys) ≡ covering a xs ++ covering a ys
  unfolding covering
  covering_append [] ys = refl
  covering_append (x ∷ xs) ys = go (covers a x) (covering_append xs ys)
    where
      go : (b : Bool) → covering a (xs ++ ys) ≡ covering a xs ++ covering a ys
          → (if b then x ∷ covering a (xs ++ ys) else covering a (xs ++ ys)) ≡ (if b then x ∷ covering a xs else covering a xs) ++ covering a ys
      go true e = ap (λ (l : List Mapped). x ∷ l) e
      go false e = e

  before : {lo hi : ℕ} {xs : List Mapped} → a < lo → Between lo xs hi → covering a xs ≡ []
  unfolding covering
  before h (nil l) = refl
  before h (cons {x = x} {xs = xs} l b) =
      let p = pow_pos (32 - x.consumed) in
      rw (lt-leb x.first a (omega arith)) (before (omega arith) b)

  behind : {lo hi : ℕ} {xs : List Mapped} → hi ≤ a → Between lo xs hi → covering a xs ≡ []
  unfolding covering
  behind h (nil l) = refl
  behind h (cons {x = x} {xs = xs} l b) =
      let r = in_order b in
      let p = pow_pos (32 - x.consumed) in
      rw (le-leb x.first a (omega arith), le-ltb a (end_of x) (omega arith)) (behind h b)

  covering_gather : (f : ℕ → List Mapped) (g : ℕ → ℕ) (j i n : ℕ) → ((k l : ℕ) → k ≤ l → g k ≤ g l) → ((k : ℕ) → k < i + n → Between (g k) (f k) (g (suc k)))
      → g j ≤ a → a < g (suc j) → i ≤ j → j < i + n → covering a (gather f i n) ≡ covering a (f j)
  unfolding gather
  covering_gather f g j i zero mono each lo hi l u = absurd (omega arith)
  covering_gather f g j i (suc n) mono each lo hi l u = go (dec_le j i) (λ k. covering_gather f g j (suc i) n mono (λ x y. each x (omega arith)) lo hi k (omega arith))
    where
      go : Dec (j ≤ i) → (suc i ≤ j → covering a (gather f (suc i) n) ≡ covering a (f j)) → covering a (gather f i (suc n)) ≡ covering a (f j)
      go (yes q) next =
          let e : i ≡ j = omega arith in
          let rest = between_gather f g (suc i) n (λ k y. each k (omega arith)) in
          covering_append (f i) (gather f (suc i) n)
          ∙ ap (λ (zs : List Mapped). covering a (f i) ++ zs) (before (rw e hi) rest)
          ∙ append-nil (covering a (f i))
          ∙ ap (λ (k : ℕ). covering a (f k)) e
      go (no q) next =
          let up : suc i ≤ j = omega arith in
          let past = mono (suc i) j up in
          covering_append (f i) (gather f (suc i) n)
          ∙ ap (λ (zs : List Mapped). zs ++ covering a (gather f (suc i) n)) (behind (omega arith) (each i (omega arith)))
          ∙ next up

-- ---- one level after the other
-- a table or an entry that has the address, `left` levels from it on, and what the walk has found up to it
pub record Reached (a left : ℕ) (n : Node) (f : Found) : Type 0 where
  pub wp : f.wp ≡ n.wp
  pub sup : f.sup ≡ n.sup
  pub levels : f.levels + left ≤ every_level
  pub low : n.first ≤ a
  pub high : a < n.first + 2 ^ (32 - n.consumed)
  pub aligned : Aligned n.first n.consumed

-- where two choices by one test are related side by side, they are related
both : {A B : Type 0} (P : A → B → Type 0) (b : Bool) (x y : A) (x' y' : B) → P x x' → P y y' → P (if b then x else y) (if b then x' else y')
both P true x y x' y' h k = h
both P false x y x' y' h k = k

module _ (m : Memory) (a : ℕ) where
  -- the entry's one range has the address, and is the address's
  module _ (e : Node) (al : Aligned e.first e.consumed) (lo : e.first ≤ a) (hi : a < e.first + 2 ^ (32 - e.consumed)) where
    first_is : e.first ≡ a - low_of a e.consumed
    first_is =
        let o = offset e.first e.consumed a al lo hi in
        omega arith

    its_page : (field : ℕ) (wp sup : Bool) → covering a (page_at e field wp sup ∷ []) ≡ page_at e field wp sup ∷ []
    unfolding covering
    its_page field wp sup = rw (le-leb e.first a lo, lt-ltb a (e.first + 2 ^ (32 - e.consumed)) hi)

    its_lost : covering a (lost_at e ∷ []) ≡ lost_over a e.consumed ∷ []
    unfolding covering
    its_lost = rw (le-leb e.first a lo, lt-ltb a (e.first + 2 ^ (32 - e.consumed)) hi, ← first_is)

  -- what the entry is, and what the walk makes of its descriptor
  abbrev Alike : (Node → List Mapped) → Outcome → Seen → Type 0
  Alike next o z = Says a o (covering a (ranges_in next z))

  page_alike : (next : Node → List Mapped) (left : ℕ) (e : Node) (f : Found) (field : ℕ) (wp sup : Bool) → Reached a left e f
      → Said a (f.wp || wp) (f.sup || sup) (Page field e.consumed) (covering a (ranges_in next (One (page_at e field wp sup))))
  page_alike next left e f field wp sup r =
      its_page e r.aligned r.low r.high field wp sup
      ∙ rw (r.wp, r.sup, ← first_is e r.aligned r.low r.high)

  lost_alike : (next : Node → List Mapped) (left : ℕ) (e : Node) (f : Found) (at : ℕ) → Reached a left e f
      → Said a f.wp f.sup (BusError at) (covering a (ranges_in next (One (lost_at e))))
  lost_alike next left e f at r = (e.consumed, its_lost e r.aligned r.low r.high)

  target_alike : (next : Node → List Mapped) (left : ℕ) (e : Node) (f : Found) (at : ℕ) (d : Descriptor) → Reached a left e f
      → Alike next (on_target e.consumed at f d) (seen_target e d)
  unfolding covering
  target_alike next left e f at (Lost lost n) r = lost_alike next left e f lost r
  target_alike next left e f at (Whole kind field wp sup n) r =
      both (λ (o : End) (z : Seen). Said a (f.wp || wp) (f.sup || sup) o (covering a (ranges_in next z))) (eqb kind 1) _ _ _ _
      (page_alike next left e f field wp sup r) refl

  -- what the walk has found after a descriptor of the entry's own level
  after : (left : ℕ) (e : Node) (f : Found) (at : ℕ) (n : List ℕ) → Reached a (suc left) e f → Reached a left e (deeper (asking at n f))
  after left e f at n r =
      let l = r.levels in
      record { wp = r.wp; sup = r.sup; levels = omega arith; low = r.low; high = r.high; aligned = r.aligned }

  -- below a descriptor that opens a table
  opened : (left : ℕ) (e : Node) (f : Found) (kind field : ℕ) (wp sup : Bool) → Reached a left e f → Reached a left (table_at e kind field wp sup) (guarded wp sup f)
  opened left e f kind field wp sup r =
      record { wp = rw r.wp; sup = rw r.sup; levels = r.levels; low = r.low; high = r.high; aligned = r.aligned }

  -- tables with these levels from them on are as the walk says
  abbrev Tables : List ℕ → Type 0
  Tables ws = (t : Node) (f : Found) → Fits ws t.consumed → Reached a (length ws) t f
      → Says a (walk_from m every_level (steps a t.consumed ws) t.at t.long f) (covering a (table_ranges m ws t))

  table_alike : (w : ℕ) (ws : List ℕ) (e : Node) (f : Found) (kind field : ℕ) (wp sup : Bool) → Tables (w ∷ ws) → Fits (w ∷ ws) e.consumed
      → Reached a (length (w ∷ ws)) e f
      → Alike (λ (u : Node). table_ranges m (w ∷ ws) u)
      (on_table m e.consumed kind field wp sup f (steps a e.consumed (w ∷ ws)) (λ t l g. walk_from m every_level (steps a e.consumed (w ∷ ws)) t l g))
      (Opens (table_at e kind field wp sup))
  table_alike w ws e f kind field wp sup below h r =
      below (table_at e kind field wp sup) (guarded wp sup f) h (opened (length (w ∷ ws)) e f kind field wp sup r)

  kind_alike : (ws : List ℕ) (e : Node) (f : Found) (kind field : ℕ) (wp sup : Bool) → (none_left ws ≡ false → Tables ws) → Fits ws e.consumed
      → Reached a (length ws) e f
      → Alike (λ (u : Node). table_ranges m ws u)
      (on_table m e.consumed kind field wp sup f (steps a e.consumed ws) (λ t l g. walk_from m every_level (steps a e.consumed ws) t l g))
      (if none_left ws then seen_target e (read_of m (field / 4 * 4) (eqb kind 3)) else Opens (table_at e kind field wp sup))
  kind_alike [] e f kind field wp sup below h r = target_alike _ 0 e f (field / 4 * 4) (read_of m (field / 4 * 4) (eqb kind 3)) r
  kind_alike (w ∷ ws) e f kind field wp sup below h r = table_alike w ws e f kind field wp sup (below refl) h r

  descriptor_alike : (ws : List ℕ) (e : Node) (f : Found) (d : Descriptor) → (none_left ws ≡ false → Tables ws) → Fits ws e.consumed
      → Reached a (suc (length ws)) e f
      → Alike (λ (u : Node). table_ranges m ws u)
      (on_descriptor m e.consumed e.at f (steps a e.consumed ws) (λ t l g. walk_from m every_level (steps a e.consumed ws) t l g) d)
      (seen_by m (none_left ws) e d)
  unfolding covering
  descriptor_alike ws e f (Lost lost n) below h r = lost_alike (λ (u : Node). table_ranges m ws u) (suc (length ws)) e f lost r
  descriptor_alike ws e f (Whole kind field wp sup n) below h r =
      both (Alike (λ (u : Node). table_ranges m ws u)) (eqb kind 1) _ _ _ _
      (page_alike (λ (u : Node). table_ranges m ws u) (suc (length ws)) e f field wp sup r)
      (both (Alike (λ (u : Node). table_ranges m ws u)) (ltb kind 2) _ _ _ _ refl
      (kind_alike ws e (deeper (asking e.at n f)) kind field wp sup below h (after (length ws) e f e.at n r)))

  entry_says : (ws : List ℕ) (e : Node) (f : Found) → (none_left ws ≡ false → Tables ws) → Fits ws e.consumed → Reached a (suc (length ws)) e f
      → Says a (on_descriptor m e.consumed e.at f (steps a e.consumed ws) (λ t l g. walk_from m every_level (steps a e.consumed ws) t l g)
      (read_of m e.at e.long)) (covering a (entry_ranges m ws e))
  unfolding seen_of
  entry_says ws e f below h r = descriptor_alike ws e f (read_of m e.at e.long) below h r

  -- of a table's entries only the one that the walk's index names has the address
  only : (w : ℕ) (ws : List ℕ) (t : Node) → Fits (w ∷ ws) t.consumed → Aligned t.first t.consumed → (at : Lies t.first t.consumed w a)
      → covering a (gather (λ (i : ℕ). entry_ranges m ws (entry_at t w i)) 0 (2 ^ w)) ≡ covering a (entry_ranges m ws (entry_at t w at.j))
  only w ws t h al at =
      covering_gather a (λ (i : ℕ). entry_ranges m ws (entry_at t w i)) start at.j 0 (2 ^ w) mono each at.from to (omega arith) (omega (arith, at.below))
    where
      start : ℕ → ℕ
      start j = t.first + j * 2 ^ (32 - (t.consumed + w))

      next : (j : ℕ) → start j + 2 ^ (32 - (t.consumed + w)) ≡ start (suc j)
      next j = omega (arith, suc-mul j (2 ^ (32 - (t.consumed + w))))

      mono : (k l : ℕ) → k ≤ l → start k ≤ start l
      mono k l u =
          let p = mul-le-mul_right (2 ^ (32 - (t.consumed + w))) u in
          omega arith

      each : (k : ℕ) → k < 0 + 2 ^ w → Between (start k) (entry_ranges m ws (entry_at t w k)) (start (suc k))
      each k l =
          subst (λ (n : ℕ). Between (start k) (entry_ranges m ws (entry_at t w k)) n) (next k)
          (entry_inside m ws (entry_at t w k) h.1 (stretch t.first t.consumed w k al (fits_most ws (t.consumed + w) h.1) (omega arith)).aligned)

      to : a < start (suc at.j)
      to = rw (← next at.j) at.to

  level_says : (w : ℕ) (ws : List ℕ) → (none_left ws ≡ false → Tables ws) → Tables (w ∷ ws)
  unfolding walk_from table_ranges
  level_says w ws below t f h r =
      let al = r.aligned in
      let most = fits_most ws (t.consumed + w) h.1 in
      let at = lies t.first t.consumed w a al h.0 most r.low r.high in
      let st = stretch t.first t.consumed w at.j al most at.below in
      let levels = r.levels in
      rw (lt-leb every_level f.levels (omega arith), at.index, only w ws t h al at)
      (entry_says ws (entry_at t w at.j) f below h.1
      (record { wp = r.wp; sup = r.sup; levels = levels; low = at.from; high = at.to; aligned = st.aligned }))

  -- the law of a table: the ranges of its tree that have an address of its stretch are what the walk from it says
  pub tables_say : (ws : List ℕ) → none_left ws ≡ false → Tables ws
  tables_say [] e = absurd (true≢false e)
  tables_say (w ∷ ws) e = level_says w ws (tables_say ws)

-- ---- a tree
eqb_some : (w : ℕ) → eqb w 0 ≡ false → 0 < w
eqb_some w e = let n = eqb-false w 0 e in omega arith

-- each width up to the first zero is some, and where all of them fit an address they fit one after the other
pub used_fits : (ws : List ℕ) (c : ℕ) → c + sum_of (used ws) ≤ 32 → Fits (used ws) c
used_fits [] c h = omega arith
used_fits (w ∷ ws) c h = go (eqb w 0) refl h (λ k. used_fits ws (c + w) k)
  where
    go : (b : Bool) → eqb w 0 ≡ b → c + sum_of (if b then [] else w ∷ used ws) ≤ 32 → (c + w + sum_of (used ws) ≤ 32 → Fits (used ws) (c + w))
        → Fits (if b then [] else w ∷ used ws) c
    go true e k next = omega arith
    go false e k next = (eqb_some w e, next (omega arith))

used_length : (ws : List ℕ) → length (used ws) ≤ length ws
used_length [] = omega arith
used_length (w ∷ ws) =
    let r = used_length ws in
    if_both (λ (l : List ℕ). length l ≤ suc (length ws)) (eqb w 0) [] (w ∷ used ws) (omega arith) (omega arith)

some_left : (us : List ℕ) → (sum_of us ≡ 0 → ⊥) → none_left us ≡ false
some_left [] n = absurd (n refl)
some_left (w ∷ ws) n = refl

module _ (m : Memory) (a : ℕ) (low : a < 2 ^ 32) (root : Root) (typed : ltb (root.limit % 4) 2 ≡ false) (code : ℕ) where
  at_root : (left : ℕ) (n : Node) → (n.first ≡ 0) × (n.consumed ≡ 0) × (n.wp ≡ false) × (n.sup ≡ false) → left ≤ every_level
      → Reached a left n (start root.address)
  at_root left n (f, c, w, s) l =
      record { wp = sym w; sup = sym s; levels = omega arith; low = rw f (omega arith); high = rw (f, c) low; aligned = rw (f, c) every_address }

  tree_says : (coded : Bool) (us : List ℕ) → none_left us ≡ false → Fits us 0 → length us ≤ 4
      → Says a (walk_steps m root every_level (steps_with coded code a 0 us))
      (covering a (if coded then entry_ranges m us (code_entry (root_table root) code) else table_ranges m us (root_table root)))
  unfolding walk_from
  tree_says true us some h l =
      rw typed
      (entry_says m a us (code_entry (root_table root) code) (start root.address) (tables_say m a us) h
      (at_root (suc (length us)) (code_entry (root_table root) code) (refl, refl, refl, refl) (omega arith)))
  tree_says false [] some h l = absurd (true≢false some)
  tree_says false (w ∷ ws) some h l =
      rw typed
      (tables_say m a (w ∷ ws) refl (root_table root) (start root.address) h
      (at_root (suc (length ws)) (root_table root) (refl, refl, refl, refl) (omega arith)))

-- what the lister takes
pub record Taken (g : Registers) (code : ℕ) : Type 0 where
  pub family : eqb g.family 30 ≡ true
  pub access : is_access_code code ≡ true
  pub skips : is_of g.tc ≡ 0
  pub some : sum_of (used (widths_of g.tc)) ≡ 0 → ⊥
  pub most : sum_of (used (widths_of g.tc)) ≤ 32
  pub typed : ltb ((root_of g code).limit % 4) 2 ≡ false

pub taken : (g : Registers) (code : ℕ) → not_taken g code ≡ false → Taken g code
taken g code e =
    let sum = sum_of (used (widths_of g.tc)) in
    let k = none_of_six (not (eqb g.family 30)) (not (is_access_code code)) (not (eqb (is_of g.tc) 0)) (eqb sum 0) (ltb 32 sum) (ltb ((root_of g code).limit % 4) 2) e in
    record {
      family = not-false _ k.0;
      access = not-false _ k.1;
      skips = eqb-true (is_of g.tc) 0 (not-false _ k.2);
      some = eqb-false sum 0 k.3;
      most = ltb-false 32 sum k.4;
      typed = k.5;
    }
  where
    none_of_six : (a b c d e f : Bool) → (a || b || c || d || e || f) ≡ false → (a ≡ false) × (b ≡ false) × (c ≡ false) × (d ≡ false) × (e ≡ false) × (f ≡ false)
    none_of_six a b c d e f h =
        let five = or_left (a || b || c || d || e) f h in
        let four = or_left (a || b || c || d) e five in
        let three = or_left (a || b || c) d four in
        let two = or_left (a || b) c three in
        (or_left a b two, or_right a b two, or_right (a || b) c three, or_right (a || b || c) d four, or_right (a || b || c || d) e five, or_right (a || b || c || d || e) f h)

module _ (g : Registers) (m : Memory) (code : ℕ) (t : Taken g code) where
  fits : Fits (used (widths_of g.tc)) 0
  fits =
      let h = t.most in
      used_fits (widths_of g.tc) 0 (omega arith)

  -- the theorem: the ranges that have an address are what its walk finds
  pub mapped_says : (a : ℕ) → a < 2 ^ 32 → Says a (walk030 m g a code every_level) (covering a (mapped g m code))
  unfolding tree_ranges widths_of
  mapped_says a low =
      rw t.skips
      (tree_says m a low (root_of g code) t.typed code (bit_of g.tc 24) (used (widths_of g.tc))
      (some_left (used (widths_of g.tc)) t.some) fits (used_length (widths_of g.tc)))

  -- the theorem: the ranges ascend, and none overlaps the next
  pub mapped_ascends : Between 0 (mapped g m code) (2 ^ 32)
  unfolding tree_ranges
  mapped_ascends =
      if_both (λ (xs : List Mapped). Between 0 xs (2 ^ 32)) (bit_of g.tc 24) _ _
      (entry_inside m (used (widths_of g.tc)) (code_entry (root_table (root_of g code)) code) fits every_address)
      (table_inside m (used (widths_of g.tc)) (root_table (root_of g code)) fits every_address)
