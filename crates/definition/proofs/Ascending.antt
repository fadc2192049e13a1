-- Request 01: the listed ranges ascend and do not overlap, so a list that is broken off is the unbroken one up to the range to go on from. Assumes nothing.
use Prim.Native.Nat.{ℕ, zero, suc, ◌+◌, ◌-◌, ◌*◌, ◌/◌, ◌^◌, ◌<◌, ◌≤◌}
use mathlib.Core.Path.{◌≡◌, refl, sym, ap, subst, ◌∙◌}
use mathlib.Core.List.{List, [], ◌∷◌, ◌++◌, append_assoc}
use mathlib.Core.Bool.{Bool}
use native.Mathlib.Omega.{arith}
use native.Mathlib.Decide.{dec_le}
use native.Mathlib.Nat.{le_trans, le_refl, suc-mul}
use borrow.Author.Tests.{lt-ltb, le-ltb}
use lib.ListN.{take, drop, take-append-drop}
use lib.Pow.{pow_pos}
use lib.Dec.{ltb, eqb}
use Rattle.definition.specs.Memory.{Memory}
use Rattle.definition.specs.Walk030.{read_of}
use Rattle.definition.specs.List.{page_at, seen_target, table_at, seen_by, seen_of, entry_at, gather, ranges_in, none_left, table_ranges, entry_ranges, end_of, ranges_from}
use Rattle.definition.specs.Walk030.{Descriptor, Whole, Lost}
use Rattle.definition.specs.declared.Mapped.{Mapped}
use Rattle.definition.specs.declared.Node.{Node}
use Rattle.definition.specs.declared.Seen.{Seen}
use Rattle.definition.specs.declared.Seen.TheVariants.{Nothing, One, Opens}
use Rattle.definition.proofs.Choice.{if_both}
use Rattle.definition.proofs.Stretches.{Aligned, stretch, size_is, Fits, fits_most}

-- ---- in order
-- ranges from `lo` on that end at `hi` or before, each behind the one before it
pub data Between : ℕ → List Mapped → ℕ → Type 0 where
  nil : {lo hi : ℕ} → lo ≤ hi → Between lo [] hi
  cons : {lo hi : ℕ} {x : Mapped} {xs : List Mapped} → lo ≤ x.first → Between (end_of x) xs hi → Between lo (x ∷ xs) hi

lower : {lo lo' hi : ℕ} {xs : List Mapped} → lo ≤ lo' → Between lo' xs hi → Between lo xs hi
lower h (nil l) = nil (le_trans h l)
lower h (cons l b) = cons (le_trans h l) b

append : {lo mid hi : ℕ} {xs ys : List Mapped} → Between lo xs mid → Between mid ys hi → Between lo (xs ++ ys) hi
append (nil l) c = lower l c
append (cons l b) c = cons l (append b c)

pub in_order : {lo hi : ℕ} {xs : List Mapped} → Between lo xs hi → lo ≤ hi
in_order (nil l) = l
in_order (cons {x = x} l b) =
    let r = in_order b in
    let p = pow_pos (32 - x.consumed) in
    omega arith

-- lists in a row, each in its own stretch
pub between_gather : (f : ℕ → List Mapped) (g : ℕ → ℕ) (i n : ℕ) → ((j : ℕ) → j < i + n → Between (g j) (f j) (g (suc j)))
    → Between (g i) (gather f i n) (g (i + n))
unfolding gather
between_gather f g i zero h = nil (same (omega arith))
  where
    same : i ≡ i + 0 → g i ≤ g (i + 0)
    same e = rw (← e) (le_refl (g i))
between_gather f g i (suc n) h =
    let e : i + suc n ≡ suc i + n = omega arith in
    rw e (append (h i (omega arith)) (between_gather f g (suc i) n (λ j l. h j (omega arith))))

-- ---- what an entry is, it is at its own stretch
abbrev pub Here : Node → Seen → Type 0
Here e Nothing = Unit {0}
Here e (One x) = (x.first ≡ e.first) × (x.consumed ≡ e.consumed)
Here e (Opens t) = (t.first ≡ e.first) × (t.consumed ≡ e.consumed)

target_here : (e : Node) (d : Descriptor) → Here e (seen_target e d)
target_here e (Lost at asked) = (refl, refl)
target_here e (Whole kind field wp sup asked) = if_both (Here e) (eqb kind 1) (One (page_at e field wp sup)) Nothing (refl, refl) tt

by_here : (m : Memory) (last : Bool) (e : Node) (d : Descriptor) → Here e (seen_by m last e d)
by_here m last e (Lost at asked) = (refl, refl)
by_here m last e (Whole kind field wp sup asked) =
    if_both (Here e) (eqb kind 1) (One (page_at e field wp sup)) _ (refl, refl)
    (if_both (Here e) (ltb kind 2) Nothing _ tt
    (if_both (Here e) last _ (Opens (table_at e kind field wp sup))
    (target_here e (read_of m (field / 4 * 4) (eqb kind 3))) (refl, refl)))

pub entry_here : (m : Memory) (last : Bool) (e : Node) → Here e (seen_of m last e)
unfolding seen_of
entry_here m last e = by_here m last e (read_of m e.at e.long)

-- ---- a table and its entries
-- what is listed of a table or an entry lies in its stretch, in order
abbrev pub Inside : Node → List Mapped → Type 0
Inside n xs = Between n.first xs (n.first + 2 ^ (32 - n.consumed))

seen_inside : (next : Node → List Mapped) (e : Node) (z : Seen) → Here e z
    → ((t : Node) → (t.first ≡ e.first) × (t.consumed ≡ e.consumed) → Inside t (next t)) → Inside e (ranges_in next z)
seen_inside next e Nothing h below =
    let p : e.first ≤ e.first + 2 ^ (32 - e.consumed) = omega arith in
    nil p
seen_inside next e (One x) h below =
    let at = h.0 in
    let size : 2 ^ (32 - x.consumed) ≡ 2 ^ (32 - e.consumed) = ap (λ (n : ℕ). 2 ^ (32 - n)) h.1 in
    let l : e.first ≤ x.first = omega arith in
    let r : end_of x ≤ e.first + 2 ^ (32 - e.consumed) = omega arith in
    cons {x = x} l (nil r)
seen_inside next e (Opens t) h below =
    subst (λ (n : ℕ). Between n (next t) (n + 2 ^ (32 - e.consumed))) h.0
    (subst (λ (c : ℕ). Between t.first (next t) (t.first + 2 ^ (32 - c))) h.1 (below t h))

aligned_as : (e t : Node) → (t.first ≡ e.first) × (t.consumed ≡ e.consumed) → Aligned e.first e.consumed → Aligned t.first t.consumed
aligned_as e t h al = rw (h.0, h.1) al

pub table_inside : (m : Memory) (ws : List ℕ) (t : Node) → Fits ws t.consumed → Aligned t.first t.consumed → Inside t (table_ranges m ws t)
unfolding table_ranges
table_inside m [] t h al =
    let p : t.first ≤ t.first + 2 ^ (32 - t.consumed) = omega arith in
    nil p
table_inside m (w ∷ ws) t h al =
    whole (between_gather _ (λ (j : ℕ). t.first + j * 2 ^ (32 - (t.consumed + w))) 0 (2 ^ w) (entry (λ u f b. table_inside m ws u f b)))
  where
    most : t.consumed + w ≤ 32
    most = fits_most ws (t.consumed + w) h.1

    entry : ((u : Node) → Fits ws u.consumed → Aligned u.first u.consumed → Inside u (table_ranges m ws u)) → (j : ℕ) → j < 0 + 2 ^ w
        → Between (t.first + j * 2 ^ (32 - (t.consumed + w))) (entry_ranges m ws (entry_at t w j)) (t.first + suc j * 2 ^ (32 - (t.consumed + w)))
    entry below j l =
        let st = stretch t.first t.consumed w j al most (omega arith) in
        let hi : t.first + j * 2 ^ (32 - (t.consumed + w)) + 2 ^ (32 - (t.consumed + w)) ≡ t.first + suc j * 2 ^ (32 - (t.consumed + w))
        = omega (arith, suc-mul j (2 ^ (32 - (t.consumed + w)))) in
        subst (λ (n : ℕ). Between (t.first + j * 2 ^ (32 - (t.consumed + w))) (entry_ranges m ws (entry_at t w j)) n) hi
        (seen_inside (λ (u : Node). table_ranges m ws u) (entry_at t w j) (seen_of m (none_left ws) (entry_at t w j)) (entry_here m (none_left ws) (entry_at t w j))
        (λ u e. below u (rw e.1 h.1) (aligned_as (entry_at t w j) u e st.aligned)))

    whole : {xs : List Mapped} → Between (t.first + 0 * 2 ^ (32 - (t.consumed + w))) xs (t.first + (0 + 2 ^ w) * 2 ^ (32 - (t.consumed + w)))
        → Between t.first xs (t.first + 2 ^ (32 - t.consumed))
    whole {xs} b =
        let z : 0 + 2 ^ w ≡ 2 ^ w = omega arith in
        let lo : t.first ≡ t.first + 0 * 2 ^ (32 - (t.consumed + w)) = omega arith in
        let hi : t.first + 2 ^ (32 - t.consumed) ≡ t.first + (0 + 2 ^ w) * 2 ^ (32 - (t.consumed + w))
        = ap (λ (n : ℕ). t.first + n) (size_is t.consumed w most ∙ ap (λ (n : ℕ). n * 2 ^ (32 - (t.consumed + w))) (sym z)) in
        subst (λ (n : ℕ). Between n xs (t.first + 2 ^ (32 - t.consumed))) (sym lo)
        (subst (λ (n : ℕ). Between (t.first + 0 * 2 ^ (32 - (t.consumed + w))) xs n) (sym hi) b)

pub entry_inside : (m : Memory) (ws : List ℕ) (e : Node) → Fits ws e.consumed → Aligned e.first e.consumed → Inside e (entry_ranges m ws e)
entry_inside m ws e h al =
    seen_inside (λ (u : Node). table_ranges m ws u) e (seen_of m (none_left ws) e) (entry_here m (none_left ws) e)
    (λ u q. table_inside m ws u (rw q.1 h) (aligned_as e u q al))

-- ---- going on from an address
module _ (from : ℕ) where
  -- all of them
  kept : {lo hi : ℕ} {xs : List Mapped} → from < lo → Between lo xs hi → ranges_from from xs ≡ xs
  unfolding ranges_from
  kept h (nil l) = refl
  kept h (cons {x = x} {xs = xs} l b) =
      let p = pow_pos (32 - x.consumed) in
      rw (lt-ltb from (end_of x) (omega arith)) (ap (λ (ys : List Mapped). x ∷ ys) (kept (omega arith) b))

  -- none of them
  pub dropped : {lo hi : ℕ} {xs : List Mapped} → hi ≤ from → Between lo xs hi → ranges_from from xs ≡ []
  unfolding ranges_from
  dropped h (nil l) = refl
  dropped h (cons {x = x} {xs = xs} l b) =
      let r = in_order b in
      rw (le-ltb from (end_of x) (omega arith)) (dropped h b)

-- broken off before y: the ranges that end past y's address are y and those after it
resumes : {lo hi : ℕ} (xs : List Mapped) (y : Mapped) (ys : List Mapped) → Between lo (xs ++ (y ∷ ys)) hi → ranges_from y.first (xs ++ (y ∷ ys)) ≡ y ∷ ys
unfolding ranges_from
resumes [] y ys (cons l b) =
    let p = pow_pos (32 - y.consumed) in
    rw (lt-ltb y.first (end_of y) (omega arith)) (ap (λ (zs : List Mapped). y ∷ zs) (kept y.first (omega arith) b))
resumes {lo = lo} {hi = hi} (x ∷ xs) y ys (cons l b) = rw (le-ltb y.first (end_of x) (past xs b)) (resumes {lo = end_of x} xs y ys b)
  where
    past : {lo hi : ℕ} (xs : List Mapped) → Between lo (xs ++ (y ∷ ys)) hi → lo ≤ y.first
    past [] (cons l b) = l
    past {lo = lo'} {hi = hi'} (z ∷ zs) (cons l b) =
        let r = past {lo = end_of z} zs b in
        omega arith

-- a part of the list from a start on is the list's own end
record Ending (from : ℕ) (items : List Mapped) : Type 0 where
  gone : List Mapped
  is : items ≡ gone ++ ranges_from from items

ending : {lo hi : ℕ} (from : ℕ) (items : List Mapped) → Between lo items hi → Ending from items
unfolding ranges_from
ending from [] b = record { gone = []; is = refl }
ending {lo = lo} {hi = hi} from (x ∷ xs) (cons l b) = go (ending {lo = end_of x} from xs b) (dec_le (end_of x) from)
  where
    go : Ending from xs → Dec (end_of x ≤ from) → Ending from (x ∷ xs)
    go r (yes q) =
        record { gone = x ∷ r.gone; is = rw (le-ltb from (end_of x) q) (ap (λ (zs : List Mapped). x ∷ zs) r.is) }
    go r (no q) =
        let p : from < end_of x = omega arith in
        record { gone = []; is = rw (lt-ltb from (end_of x) p) (ap (λ (zs : List Mapped). x ∷ zs) (sym (kept from p b))) }

-- the law: so many ranges from a start on, and what is listed from the next range's address on, make what the start lists
pub joined : {lo hi : ℕ} (items : List Mapped) (from room : ℕ) (y : Mapped) (ys : List Mapped) → Between lo items hi
    → drop room (ranges_from from items) ≡ y ∷ ys → take room (ranges_from from items) ++ ranges_from y.first items ≡ ranges_from from items
joined {lo} {hi} items from room y ys b h =
    let e = ending from items b in
    let xs = ranges_from from items in
    let s : xs ≡ take room xs ++ (y ∷ ys) = sym (take-append-drop room xs) ∙ ap (λ (l : List Mapped). take room xs ++ l) h in
    let whole : items ≡ (e.gone ++ take room xs) ++ (y ∷ ys)
    = e.is ∙ ap (λ (l : List Mapped). e.gone ++ l) s ∙ sym (append_assoc e.gone (take room xs) (y ∷ ys)) in
    let r : ranges_from y.first items ≡ y ∷ ys
    = ap (ranges_from y.first) whole ∙ resumes (e.gone ++ take room xs) y ys (subst (λ (l : List Mapped). Between lo l hi) whole b) in
    ap (λ (l : List Mapped). take room xs ++ l) r ∙ sym s

-- from 0 on it is the whole list
pub from_start : (xs : List Mapped) → ranges_from 0 xs ≡ xs
unfolding ranges_from
from_start [] = refl
from_start (x ∷ xs) =
    let p = pow_pos (32 - x.consumed) in
    rw (lt-ltb 0 (end_of x) (omega arith)) (ap (λ (ys : List Mapped). x ∷ ys) (from_start xs))
