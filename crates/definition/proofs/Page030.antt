-- Two addresses of one page take the same 68030 walk, so they ask for the same longs and end alike; and the cached base gives each its own
-- physical address. Assumes nothing.
use Rattle.std.specs.Prelude.{Option, Some}
use Prim.Native.Nat.{ℕ, ◌+◌, ◌-◌, ◌*◌, ◌/◌, ◌%◌, ◌^◌, ◌≤◌, ◌<◌}
use mathlib.Core.Path.{◌≡◌, refl, ap, sym, ◌∙◌}
use mathlib.Core.List.{List, [], ◌∷◌}
use mathlib.Core.Bool.{Bool, true, false, ◌&&◌}
use native.Mathlib.Omega.{arith}
use native.Mathlib.Nat.{mod-lt}
use borrow.Author.Tests.{leb-true}
use lib.Pow.{field, shl-shr, shr-shr, mod-pow-add, pow_pos, pow_mono}
use lib.Dec.{leb, ltb, eqb}
use Rattle.definition.specs.Words.{bit_of}
use Rattle.definition.specs.Memory.{Memory}
use Rattle.definition.specs.Registers.{root_of}
use Rattle.definition.specs.Walk030.{entry_of, Descriptor, Whole, Lost, read_of, Step, steps, steps_with, steps_of, top_index, is_of, used, widths_of, sum_of, Found, Outcome, on_target, on_table, on_descriptor, walk_from, start, walk_steps, walk030, low_of, physical_of, shift_from, shift_of}
use Rattle.definition.specs.Translate.{base_of, hit_address}
use Rattle.definition.specs.declared.End.{End}
use Rattle.definition.specs.declared.End.TheVariants.{Page, Invalid, LevelStop, BusError, Config}
use Rattle.definition.specs.declared.Registers.{Registers}
use Rattle.definition.specs.declared.Root.{Root}
use Rattle.definition.proofs.Choice.{if_by, if_both, and_left, and_right}

-- ---- the page shift
-- what TC's page shift leaves for the levels: 32 bits in all, some of them on either side
pub record Cut (sum s : ℕ) : Type 0 where
  pub some : 1 ≤ s
  pub most : s ≤ 31
  pub whole : sum + s ≡ 32

from_cut : (sum s : ℕ) → shift_from sum ≡ Some s → Cut sum s
from_cut sum s =
    if_by (λ (sh : Option ℕ). sh ≡ Some s → Cut sum s) (leb 1 sum && leb sum 31) _ _
    (λ t e.
    let low = leb-true 1 sum (and_left (leb 1 sum) _ t) in
    let high = leb-true sum 31 (and_right (leb 1 sum) _ t) in
    let is : 32 - sum ≡ s = cc in
    record { some = omega arith; most = omega arith; whole = omega arith })
    (λ f e. let z : ◌≡◌ {A = ℕ} 0 1 = cc in absurd (omega arith))

pub shift_cut : (tc s : ℕ) → shift_of tc ≡ Some s → Cut (is_of tc + sum_of (used (widths_of tc))) s
shift_cut tc s e = from_cut (is_of tc + sum_of (used (widths_of tc))) s e

-- ---- an index is a part of the address
pub index_is : (a c w : ℕ) → c < 32 → c + w ≤ 32 → top_index a c w ≡ a / 2 ^ (32 - c - w) % 2 ^ w
index_is a c w h l =
    let small : c % 32 ≡ c = omega arith in
    let e : w + (32 - w) ≡ 32 = omega arith in
    let f : c + (32 - c - w) ≡ 32 - w = omega arith in
    let part : a * 2 ^ c % 2 ^ 32 / 2 ^ (32 - w) ≡ a * 2 ^ c / 2 ^ (32 - w) % 2 ^ w = rw e at (field (a * 2 ^ c) w (32 - w)) in
    let cut : a * 2 ^ c / 2 ^ (32 - w) ≡ a / 2 ^ (32 - c - w) = rw (f, shl-shr a c) at (sym (shr-shr (a * 2 ^ c) c (32 - c - w))) in
    rw small (part ∙ ap (λ (n : ℕ). n % 2 ^ w) cut)

-- what lies above the page's bits is the same
cut_at : (a s j : ℕ) → s ≤ j → a / 2 ^ j ≡ a / 2 ^ s / 2 ^ (j - s)
cut_at a s j h = let e : s + (j - s) ≡ j = omega arith in sym (rw e at (shr-shr a s (j - s)))

pub above : (a a' s j : ℕ) → s ≤ j → a / 2 ^ s ≡ a' / 2 ^ s → a / 2 ^ j ≡ a' / 2 ^ j
above a a' s j h p = cut_at a s j h ∙ ap (λ (n : ℕ). n / 2 ^ (j - s)) p ∙ sym (cut_at a' s j h)

-- ---- two addresses of one page
module _ (a a' s : ℕ) (page : a / 2 ^ s ≡ a' / 2 ^ s) where
  index_same : 1 ≤ s → (c w : ℕ) → c + w + s ≤ 32 → top_index a c w ≡ top_index a' c w
  index_same one c w h =
      index_is a c w (omega arith) (omega arith)
      ∙ ap (λ (n : ℕ). n % 2 ^ w) (above a a' s (32 - c - w) (omega arith) page)
      ∙ sym (index_is a' c w (omega arith) (omega arith))

  steps_same : 1 ≤ s → (c : ℕ) (ws : List ℕ) → c + sum_of ws + s ≤ 32 → steps a c ws ≡ steps a' c ws
  steps_same one c [] h = refl
  steps_same one c (w ∷ ws) h = rw (index_same one c w (omega arith), steps_same one (c + w) ws (omega arith))

  with_same : 1 ≤ s → (b : Bool) (code c : ℕ) (ws : List ℕ) → c + sum_of ws + s ≤ 32 → steps_with b code a c ws ≡ steps_with b code a' c ws
  with_same one true code c ws h = rw (steps_same one c ws h)
  with_same one false code c ws h = steps_same one c ws h

  -- the law: one page under one code, one outcome, and so the same longs asked for
  pub page_030 : (m : Memory) (g : Registers) (code limit : ℕ) → shift_of g.tc ≡ Some s → walk030 m g a code limit ≡ walk030 m g a' code limit
  page_030 m g code limit e =
      let cut = shift_cut g.tc s e in
      ap (walk_steps m (root_of g code) limit)
      (with_same cut.some (bit_of g.tc 24) code (is_of g.tc) (used (widths_of g.tc)) (omega (arith, cut.whole)))

  high : ℕ → ℕ
  high c = a / 2 ^ s % 2 ^ (32 - c - s) * 2 ^ s

  low_is : (c : ℕ) → c + s ≤ 32 → low_of a c ≡ high c + a % 2 ^ s
  unfolding high
  low_is c h = let e : 32 - c - s + s ≡ 32 - c = omega arith in rw e at (mod-pow-add a (32 - c - s) s)

  low_is' : (c : ℕ) → c + s ≤ 32 → low_of a' c ≡ high c + a' % 2 ^ s
  unfolding high
  low_is' c h = let e : 32 - c - s + s ≡ 32 - c = omega arith in rw page (rw e at (mod-pow-add a' (32 - c - s) s))

  -- the law: the base that is cached for a gives the physical address of a'
  pub base_030 : (long c : ℕ) → c + s ≤ 32 → hit_address (base_of (physical_of long c a) a s) a' s ≡ physical_of long c a'
  base_030 long c h =
      let small : a % 2 ^ s < 2 ^ s = mod-lt a (pow_pos s) in
      let few : 2 ^ s ≤ 2 ^ 32 = pow_mono {i = s} {j = 32} (omega arith) in
      omega (arith, low_is c h, low_is' c h)

-- ---- a page is found with no more bits consumed than the levels take
module _ (m : Memory) (most : ℕ) where
  abbrev AtMost : End → Type 0
  AtMost (Page long consumed) = consumed ≤ most
  AtMost (Invalid indirect) = Unit {0}
  AtMost LevelStop = Unit {0}
  AtMost (BusError at) = Unit {0}
  AtMost Config = Unit {0}

  abbrev Ends : Outcome → Type 0
  Ends o = AtMost o.end

  abbrev Within : List Step → Type 0
  Within [] = Unit {0}
  Within (step ∷ rest) = (step.consumed ≤ most) × Within rest

  target_most : (c to : ℕ) (f : Found) (d : Descriptor) → c ≤ most → AtMost (on_target c to f d).end
  target_most c to f (Lost lost n) h = tt
  target_most c to f (Whole kind long wp sup n) h = if_both AtMost (eqb kind 1) (Page long c) (Invalid true) h tt

  table_most : (c kind long : ℕ) (wp sup : Bool) (f : Found) (rest : List Step) (next : ℕ → Bool → Found → Outcome)
      → ((t : ℕ) (l : Bool) (f : Found) → AtMost (next t l f).end) → c ≤ most → AtMost (on_table m c kind long wp sup f rest next).end
  table_most c kind long wp sup f [] next k h = target_most c (long / 4 * 4) f (read_of m (long / 4 * 4) (eqb kind 3)) h
  table_most c kind long wp sup f (step ∷ rest) next k h = k _ _ _

  descriptor_most : (c at : ℕ) (f : Found) (rest : List Step) (next : ℕ → Bool → Found → Outcome) (d : Descriptor)
      → ((t : ℕ) (l : Bool) (f : Found) → AtMost (next t l f).end) → c ≤ most → AtMost (on_descriptor m c at f rest next d).end
  descriptor_most c at f rest next (Lost lost n) k h = tt
  descriptor_most c at f rest next (Whole kind long wp sup n) k h =
      if_both Ends (eqb kind 1) _ _ h (if_both Ends (ltb kind 2) _ _ tt (table_most c kind long wp sup _ rest next k h))

  walk_most : (limit : ℕ) (ss : List Step) → Within ss → (t : ℕ) (l : Bool) (f : Found) → AtMost (walk_from m limit ss t l f).end
  unfolding walk_from
  walk_most limit [] h t l f = tt
  walk_most limit (step ∷ rest) h t l f =
      if_both Ends (leb limit f.levels) _ _ tt
      (descriptor_most step.consumed (entry_of t step.index l) f rest _ (read_of m (entry_of t step.index l) l)
      (walk_most limit rest h.1) h.0)

  steps_within : (a c : ℕ) (ws : List ℕ) → c + sum_of ws ≤ most → Within (steps a c ws)
  steps_within a c [] h = tt
  steps_within a c (w ∷ ws) h = (omega arith, steps_within a (c + w) ws (omega arith))

  with_within : (b : Bool) (code a c : ℕ) (ws : List ℕ) → c + sum_of ws ≤ most → Within (steps_with b code a c ws)
  with_within true code a c ws h = (omega arith, steps_within a c ws h)
  with_within false code a c ws h = steps_within a c ws h

  root_most : (root : Root) (limit : ℕ) (ss : List Step) → Within ss → AtMost (walk_steps m root limit ss).end
  root_most root limit [] h = tt
  root_most root limit (step ∷ rest) h =
      if_both Ends (ltb (root.limit % 4) 2) _ _ tt
      (walk_most limit (step ∷ rest) h (root.address / 16 * 16) (eqb (root.limit % 4) 3) (start root.address))

-- the law: a page that is found leaves the page's bits
pub consumed_030 : (m : Memory) (g : Registers) (a code limit s long c : ℕ) → shift_of g.tc ≡ Some s
    → (walk030 m g a code limit).end ≡ Page long c → c + s ≤ 32
consumed_030 m g a code limit s long c e h =
    let cut = shift_cut g.tc s e in
    let most = is_of g.tc + sum_of (used (widths_of g.tc)) in
    let few : c ≤ most =
    rw h at (root_most m most (root_of g code) limit (steps_of g.tc a code)
    (with_within m most (bit_of g.tc 24) code a (is_of g.tc) (used (widths_of g.tc)) (omega arith))) in
    omega (arith, cut.whole)
