-- The levels left below a node, and that its entries and tables stand as it does. Assumes nothing.
use Prim.Native.Nat.{ℕ, suc, ◌+◌, ◌-◌, ◌*◌, ◌/◌, ◌%◌, ◌^◌, ◌<◌, ◌≤◌}
use mathlib.Core.Path.{◌≡◌, refl, sym, ap, ◌∙◌}
use mathlib.Core.List.{List, [], ◌∷◌}
use native.Mathlib.Omega.{arith}
use native.Mathlib.Decide.{dec_le}
use native.Mathlib.Nat.{mul-le-mul_right, suc-mul, mul-mod_left}
use native.Mathlib.Numerals.{add-one}
use borrow.Author.Tests.{eq-eqb, ne_eqb}
use lib.Dec.{eqb, lit<}
use lib.Pow.{pow-add, pow_pos, shr_lt, split}
use lib.ListN.{length, get_or, drop, drop_of_length-le, get_or-eq_default}
use lib.Seq.{drop-cons}
use Rattle.definition.specs.Walk030.{widths_of, used, sum_of}
use Rattle.definition.specs.List.{entry_at, none_left, root_table, code_entry}
use Rattle.definition.specs.declared.Root.{Root}
use Rattle.definition.specs.declared.Node.{Node}
use Rattle.memory.proofs.Widths.{width_small}
use Rattle.definition.proofs.Stretches.{Aligned, stretch, Fits}
use Rattle.definition.proofs.Mapping.{used_fits}
use Rattle.list.specs.Writing.{Placed}

-- ---- a level, or none
-- a width that is some stands among the widths
pub there : (ws : List ℕ) (k : ℕ) → (get_or ws k 0 ≡ 0 → ⊥) → k < length ws
there ws k n = go (dec_le (length ws) k)
  where
    go : Dec (length ws ≤ k) → k < length ws
    go (yes h) = absurd (n (get_or-eq_default ws 0 h))
    go (no h) = omega arith

pub no_level : (ws : List ℕ) (k : ℕ) → get_or ws k 0 ≡ 0 → used (drop k ws) ≡ []
no_level ws k z = go (dec_le (length ws) k)
  where
    go : Dec (length ws ≤ k) → used (drop k ws) ≡ []
    go (yes h) = rw (drop_of_length-le ws {i = k} h)
    go (no h) = rw (drop-cons ws k 0 (omega arith), eq-eqb (get_or ws k 0) 0 z)

pub level : (ws : List ℕ) (k : ℕ) → (get_or ws k 0 ≡ 0 → ⊥) → used (drop k ws) ≡ get_or ws k 0 ∷ used (drop (k + 1) ws)
level ws k n =
    ap used (drop-cons ws k 0 (there ws k n)) ∙ rw (ne_eqb (get_or ws k 0) 0 n) (ap (λ (j : ℕ). get_or ws k 0 ∷ used (drop j ws)) (sym (add-one k)))

pub last_is : (ws : List ℕ) (k : ℕ) → eqb (get_or ws k 0) 0 ≡ none_left (used (drop k ws))
last_is ws k = go (dec_le (get_or ws k 0) 0)
  where
    go : Dec (get_or ws k 0 ≤ 0) → eqb (get_or ws k 0) 0 ≡ none_left (used (drop k ws))
    go (yes h) =
        let z : get_or ws k 0 ≡ 0 = omega arith in
        rw (eq-eqb (get_or ws k 0) 0 z, no_level ws k z)
    go (no h) =
        let n : get_or ws k 0 ≡ 0 → ⊥ = λ z. omega arith in
        rw (ne_eqb (get_or ws k 0) 0 n, level ws k n)

-- ---- aligned
pub aligned : (first consumed : ℕ) → first < 2 ^ 32 → consumed ≤ 32 → first % 2 ^ (32 - consumed) ≡ 0 → Aligned first consumed
aligned first consumed low most e =
    let s = 32 - consumed in
    let parts = split first s in
    let bits : 32 ≡ consumed + s = omega arith in
    let all : 2 ^ 32 ≡ 2 ^ (consumed + s) = ap (λ (n : ℕ). 2 ^ n) bits in
    let few : first / 2 ^ s < 2 ^ consumed = shr_lt consumed s (omega arith) in
    let room : suc (first / 2 ^ s) * 2 ^ s ≤ 2 ^ consumed * 2 ^ s = mul-le-mul_right (2 ^ s) few in
    let one = suc-mul (first / 2 ^ s) (2 ^ s) in
    let whole = pow-add 2 consumed s in
    record { q = first / 2 ^ s; is = omega arith; top = omega arith }

pub back : (first consumed : ℕ) → Aligned first consumed → first % 2 ^ (32 - consumed) ≡ 0
back first consumed al = rw al.is (mul-mod_left al.q (2 ^ (32 - consumed)))

-- ---- where a node stands
pub most : (ws : List ℕ) (k : ℕ) (n : Node) → Placed ws k n → n.consumed ≤ 32
most ws k n p =
    let h = p.fits in
    omega arith

pub its_stretch : (ws : List ℕ) (k : ℕ) (n : Node) → Placed ws k n → Aligned n.first n.consumed
its_stretch ws k n p = aligned n.first n.consumed p.low (most ws k n p) p.aligned

pub its_levels : (ws : List ℕ) (k : ℕ) (n : Node) → Placed ws k n → Fits (used (drop k ws)) n.consumed
its_levels ws k n p = used_fits (drop k ws) n.consumed p.fits

-- an entry of a table stands as the table does, one level further
pub record Below (ws : List ℕ) (k : ℕ) (t : Node) (w i : ℕ) : Type 0 where
  pub some : 0 < w
  pub fits : t.consumed + w ≤ 32
  pub low : t.first + i * 2 ^ (32 - (t.consumed + w)) < 2 ^ 32
  pub placed : Placed ws (k + 1) (entry_at t w i)

pub below : (ws : List ℕ) (k : ℕ) (t : Node) (w n i : ℕ) → Placed ws k t → w ≡ get_or ws k 0 → (w ≡ 0 → ⊥) → n ≡ 2 ^ w → i < n → Below ws k t w i
below ws k t w n i p e some size h =
    let some' : get_or ws k 0 ≡ 0 → ⊥ = λ z. some (e ∙ z) in
    let sums : sum_of (used (drop k ws)) ≡ get_or ws k 0 + sum_of (used (drop (k + 1) ws)) = ap sum_of (level ws k some') in
    let f = p.fits in
    let fits : t.consumed + w ≤ 32 = omega arith in
    let st = stretch t.first t.consumed w i (its_stretch ws k t p) fits (rw size at h) in
    let top = st.aligned.top in
    let pos = pow_pos (32 - (t.consumed + w)) in
    let low : t.first + i * 2 ^ (32 - (t.consumed + w)) < 2 ^ 32 = omega arith in
    record {
      some = omega arith;
      fits = fits;
      low = low;
      placed = record {
        narrow = p.narrow;
        fits = omega arith;
        low = low;
        aligned = back (t.first + i * 2 ^ (32 - (t.consumed + w))) (t.consumed + w) st.aligned;
      };
    }

-- a width that is some is one of the four
pub four : (ws : List ℕ) (k w : ℕ) → length ws ≡ 4 → w ≡ get_or ws k 0 → (w ≡ 0 → ⊥) → k < 4
four ws k w l e some =
    let h = there ws k (λ z. some (e ∙ z)) in
    omega arith

-- a table that an entry opens has the entry's stretch
pub opened : (ws : List ℕ) (k : ℕ) (e t : Node) → (t.first ≡ e.first) × (t.consumed ≡ e.consumed) → Placed ws k e → Placed ws k t
opened ws k e t h p = record { narrow = p.narrow; fits = rw h.1 p.fits; low = rw h.0 p.low; aligned = rw (h.0, h.1) p.aligned }

-- the root's table, and the code's entry of it
at_root : (tc : ℕ) (ws : List ℕ) (n : Node) → ws ≡ widths_of tc → sum_of (used (widths_of tc)) ≤ 32 → (n.first ≡ 0) × (n.consumed ≡ 0) → Placed ws 0 n
at_root tc ws n e h z =
    record {
      narrow = λ k. rw e (width_small tc k);
      fits = rw (z.1, e) (omega arith);
      low = rw z.0 (lit< tt);
      aligned = rw (z.0, z.1) refl;
    }

pub root_placed : (tc : ℕ) (ws : List ℕ) (root : Root) (t : Node) → ws ≡ widths_of tc → sum_of (used (widths_of tc)) ≤ 32 → t ≡ root_table root → Placed ws 0 t
root_placed tc ws root t e h is = at_root tc ws t e h (rw is refl, rw is refl)

pub code_placed : (tc : ℕ) (ws : List ℕ) (root : Root) (t : Node) (code : ℕ) (n : Node) → ws ≡ widths_of tc → sum_of (used (widths_of tc)) ≤ 32 → t ≡ root_table root
    → n ≡ code_entry t code → Placed ws 0 n
code_placed tc ws root t code n e h is its = at_root tc ws n e h (rw (its, is) refl, rw (its, is) refl)
