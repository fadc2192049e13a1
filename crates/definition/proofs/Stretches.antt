-- A table's stretch of the addresses, and its entries' stretches in it. Assumes nothing.
use Prim.Native.Nat.{ℕ, suc, ◌+◌, ◌-◌, ◌*◌, ◌/◌, ◌%◌, ◌^◌, ◌<◌, ◌≤◌}
use mathlib.Core.Path.{◌≡◌, refl, sym, ap, ◌∙◌}
use mathlib.Core.List.{List, [], ◌∷◌}
use native.Mathlib.Omega.{arith}
use native.Mathlib.Nat.{mul-le-mul_right, suc-mul, mul_assoc, add-mul, mod-lt}
use lib.Pow.{pow-add, pow_pos, high, low, shr_lt, split}
use Rattle.definition.specs.Walk030.{top_index}
use Rattle.definition.proofs.Page030.{index_is}

-- a stretch of 2^(32 - consumed) addresses that is aligned to its size, and ends within the 4 GiB
pub record Aligned (first consumed : ℕ) : Type 0 where
  pub q : ℕ
  pub is : first ≡ q * 2 ^ (32 - consumed)
  pub top : first + 2 ^ (32 - consumed) ≤ 2 ^ 32

pub every_address : Aligned 0 0
every_address = record { q = 0; is = refl; top = omega arith }

-- an address of an aligned stretch, by its distance from the first
pub offset : (first consumed a : ℕ) → Aligned first consumed → first ≤ a → a < first + 2 ^ (32 - consumed) → a % 2 ^ (32 - consumed) ≡ a - first
offset first consumed a al lo hi =
    let is = al.is in
    let small : a - first < 2 ^ (32 - consumed) = omega arith in
    let e : a ≡ al.q * 2 ^ (32 - consumed) + (a - first) = omega arith in
    ap (λ (n : ℕ). n % 2 ^ (32 - consumed)) e ∙ low al.q (32 - consumed) small

-- entry j of a table whose level has width w
pub record Stretch (first consumed w j : ℕ) : Type 0 where
  pub high : first + j * 2 ^ (32 - (consumed + w)) + 2 ^ (32 - (consumed + w)) ≤ first + 2 ^ (32 - consumed)
  pub aligned : Aligned (first + j * 2 ^ (32 - (consumed + w))) (consumed + w)
  pub index : (a : ℕ) → first + j * 2 ^ (32 - (consumed + w)) ≤ a → a < first + j * 2 ^ (32 - (consumed + w)) + 2 ^ (32 - (consumed + w))
      → a / 2 ^ (32 - (consumed + w)) % 2 ^ w ≡ j

index_of : (q w s j a : ℕ) → j < 2 ^ w → (q * 2 ^ w + j) * 2 ^ s ≤ a → a < (q * 2 ^ w + j) * 2 ^ s + 2 ^ s → a / 2 ^ s % 2 ^ w ≡ j
index_of q w s j a l lo hi =
    let small : a - (q * 2 ^ w + j) * 2 ^ s < 2 ^ s = omega arith in
    let e : a ≡ (q * 2 ^ w + j) * 2 ^ s + (a - (q * 2 ^ w + j) * 2 ^ s) = omega arith in
    ap (λ (n : ℕ). n / 2 ^ s % 2 ^ w) e ∙ ap (λ (n : ℕ). n % 2 ^ w) (high (q * 2 ^ w + j) s small) ∙ low q w l

-- 2^w stretches make the table's
pub size_is : (consumed w : ℕ) → consumed + w ≤ 32 → 2 ^ (32 - consumed) ≡ 2 ^ w * 2 ^ (32 - (consumed + w))
size_is consumed w h =
    let d : 32 - consumed ≡ w + (32 - (consumed + w)) = omega arith in
    ap (λ (n : ℕ). 2 ^ n) d ∙ pow-add 2 w (32 - (consumed + w))

pub stretch : (first consumed w j : ℕ) → Aligned first consumed → consumed + w ≤ 32 → j < 2 ^ w → Stretch first consumed w j
stretch first consumed w j al h l = go (32 - (consumed + w)) refl
  where
    go : (s : ℕ) → 32 - (consumed + w) ≡ s → Stretch first consumed w j
    go s e =
        let size : 2 ^ (32 - consumed) ≡ 2 ^ w * 2 ^ s = rw e at (size_is consumed w h) in
        let room : suc j * 2 ^ s ≤ 2 ^ w * 2 ^ s = mul-le-mul_right (2 ^ s) l in
        let one = suc-mul j (2 ^ s) in
        let top = al.top in
        let whole : first + j * 2 ^ s ≡ (al.q * 2 ^ w + j) * 2 ^ s
        = ap (λ (n : ℕ). n + j * 2 ^ s) (al.is ∙ ap (λ (n : ℕ). al.q * n) size ∙ sym (mul_assoc al.q (2 ^ w) (2 ^ s))) ∙ sym (add-mul (al.q * 2 ^ w) j (2 ^ s)) in
        record {
          high = rw e (omega arith);
          aligned = record { q = al.q * 2 ^ w + j; is = rw e whole; top = rw e (omega arith) };
          index = λ a lo hi. rw e (index_of al.q w s j a l (rw (e, whole) at lo) (rw (e, whole) at hi));
        }

-- the entry of a table that an address of the table's stretch lies in: the walk's own index
pub record Lies (first consumed w a : ℕ) : Type 0 where
  pub j : ℕ
  pub below : j < 2 ^ w
  pub index : top_index a consumed w ≡ j
  pub from : first + j * 2 ^ (32 - (consumed + w)) ≤ a
  pub to : a < first + j * 2 ^ (32 - (consumed + w)) + 2 ^ (32 - (consumed + w))

pub lies : (first consumed w a : ℕ) → Aligned first consumed → 0 < w → consumed + w ≤ 32 → first ≤ a → a < first + 2 ^ (32 - consumed)
    → Lies first consumed w a
lies first consumed w a al p h lo hi = go (32 - (consumed + w)) refl
  where
    go : (s : ℕ) → 32 - (consumed + w) ≡ s → Lies first consumed w a
    go s e =
        let size : 2 ^ (32 - consumed) ≡ 2 ^ (w + s) = ap (λ (n : ℕ). 2 ^ n) (omega arith) in
        let far : a - first < 2 ^ (w + s) = omega arith in
        let l : (a - first) / 2 ^ s < 2 ^ w = shr_lt w s far in
        let parts = split (a - first) s in
        let rest : (a - first) % 2 ^ s < 2 ^ s = mod-lt (a - first) (pow_pos s) in
        let from : first + (a - first) / 2 ^ s * 2 ^ s ≤ a = omega arith in
        let to : a < first + (a - first) / 2 ^ s * 2 ^ s + 2 ^ s = omega arith in
        let d : 32 - consumed - w ≡ 32 - (consumed + w) = omega arith in
        let st = stretch first consumed w ((a - first) / 2 ^ s) al h l in
        record {
          j = (a - first) / 2 ^ s;
          below = l;
          index = index_is a consumed w (omega arith) h ∙ ap (λ (n : ℕ). a / 2 ^ n % 2 ^ w) d ∙ st.index a (rw e from) (rw e to);
          from = rw e from;
          to = rw e to;
        }

-- ---- levels: each of some width, and all of them within an address
abbrev pub Fits : List ℕ → ℕ → Type 0
Fits [] consumed = consumed ≤ 32
Fits (w ∷ ws) consumed = (0 < w) × Fits ws (consumed + w)

pub fits_most : (ws : List ℕ) (consumed : ℕ) → Fits ws consumed → consumed ≤ 32
fits_most [] c h = h
fits_most (w ∷ ws) c h =
    let r = fits_most ws (c + w) h.1 in
    omega arith
