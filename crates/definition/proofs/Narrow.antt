-- A walk reads the low 32 bits of an address alone: of a page number of any width, the walk of its first address is that of the address in 32 bits. Assumes nothing.
use Prim.Native.Nat.{ℕ, ◌+◌, ◌-◌, ◌*◌, ◌/◌, ◌%◌, ◌^◌, ◌<◌}
use mathlib.Core.Path.{◌≡◌, refl, ap, sym, ◌∙◌}
use mathlib.Core.List.{List, [], ◌∷◌}
use mathlib.Core.Bool.{Bool, true, false}
use native.Mathlib.Omega.{arith}
use native.Mathlib.Nat.{mul-mod_left}
use lib.Pow.{mod-pow-add, mod-mod-pow, shl-shr}
use Rattle.definition.specs.Words.{bit_of}
use Rattle.definition.specs.Memory.{Memory, fetch_of}
use Rattle.definition.specs.Registers.{root_of}
use Rattle.definition.specs.Walk030.{top_index, steps, steps_with, is_of, used, widths_of, walk_steps, walk030, physical_of}
use Rattle.definition.specs.Walk040.{root_at, pointer_at, page_at, on_pointer, on_root, walk040}
use Rattle.definition.specs.Cache030.{Entry}
use Rattle.definition.specs.Audit.{is_end030, is_outcome030}
use Rattle.definition.specs.declared.End.{End}
use Rattle.definition.specs.declared.End.TheVariants.{Page, Invalid, LevelStop, BusError, Config}
use Rattle.definition.specs.declared.Registers.{Registers}
use Rattle.definition.proofs.Choice.{if_alike}
use Rattle.definition.proofs.Page040.{long_next}

-- ---- the low bits
shl_low : (a j : ℕ) → j < 32 → a * 2 ^ j % 2 ^ 32 ≡ a % 2 ^ (32 - j) * 2 ^ j
shl_low a j l =
    let e : 32 - j + j ≡ 32 = omega arith in
    let f : a * 2 ^ j % 2 ^ 32 ≡ (a * 2 ^ j / 2 ^ j % 2 ^ (32 - j)) * 2 ^ j + a * 2 ^ j % 2 ^ j = rw e at (mod-pow-add (a * 2 ^ j) (32 - j) j) in
    let h : a * 2 ^ j % 2 ^ 32 ≡ (a % 2 ^ (32 - j)) * 2 ^ j + 0 = rw (shl-shr a j, mul-mod_left a (2 ^ j)) at f in
    omega (arith, h)

low_low : (a j : ℕ) → a % 2 ^ 32 % 2 ^ (32 - j) ≡ a % 2 ^ (32 - j)
low_low a j = let e : 32 - (32 - j) + (32 - j) ≡ 32 = omega arith in rw e at (mod-mod-pow a (32 - (32 - j)) (32 - j))

-- ---- the 68030
module _ (a : ℕ) where
  index_low : (c w : ℕ) → top_index (a % 2 ^ 32) c w ≡ top_index a c w
  index_low c w =
      let l : c % 32 < 32 = omega arith in
      ap (λ (n : ℕ). n / 2 ^ (32 - w))
      (shl_low (a % 2 ^ 32) (c % 32) l ∙ ap (λ (n : ℕ). n * 2 ^ (c % 32)) (low_low a (c % 32)) ∙ sym (shl_low a (c % 32) l))

  steps_low : (c : ℕ) (ws : List ℕ) → steps (a % 2 ^ 32) c ws ≡ steps a c ws
  steps_low c [] = refl
  steps_low c (w ∷ ws) = rw (index_low c w, steps_low (c + w) ws)

  with_low : (b : Bool) (code c : ℕ) (ws : List ℕ) → steps_with b code (a % 2 ^ 32) c ws ≡ steps_with b code a c ws
  with_low true code c ws = rw (steps_low c ws)
  with_low false code c ws = steps_low c ws

  pub narrow_030 : (m : Memory) (g : Registers) (code limit : ℕ) → walk030 m g (a % 2 ^ 32) code limit ≡ walk030 m g a code limit
  narrow_030 m g code limit =
      ap (walk_steps m (root_of g code) limit) (with_low (bit_of g.tc 24) code (is_of g.tc) (used (widths_of g.tc)))

  pub narrow_physical : (field consumed : ℕ) → physical_of field consumed (a % 2 ^ 32) ≡ physical_of field consumed a
  narrow_physical field consumed = ap (λ (n : ℕ). (field / 256 * 256 + n) % 2 ^ 32) (low_low a consumed)

  pub end_narrow : (e : Entry) (wp sup : Bool) (end : End) → is_end030 e (a % 2 ^ 32) wp sup end ≡ is_end030 e a wp sup end
  end_narrow e wp sup (Page field consumed) = rw (narrow_physical field consumed)
  end_narrow e wp sup (Invalid indirect) = refl
  end_narrow e wp sup (BusError at) = refl
  end_narrow e wp sup LevelStop = refl
  end_narrow e wp sup Config = refl

  pub narrow_outcome : (e : Entry) (m : Memory) (g : Registers) (code limit : ℕ)
      → is_outcome030 e (a % 2 ^ 32) (walk030 m g (a % 2 ^ 32) code limit) ≡ is_outcome030 e a (walk030 m g a code limit)
  narrow_outcome e m g code limit =
      ap (is_outcome030 e (a % 2 ^ 32)) (narrow_030 m g code limit) ∙ end_narrow e _ _ (walk030 m g a code limit).end

  -- ---- the 68040
  page_low : (tc pointer : ℕ) → page_at tc pointer (a % 2 ^ 32) ≡ page_at tc pointer a
  page_low tc pointer =
      let h : a % 2 ^ 32 / 2 ^ 13 % 32 ≡ a / 2 ^ 13 % 32 = omega arith in
      let k : a % 2 ^ 32 / 2 ^ 12 % 64 ≡ a / 2 ^ 12 % 64 = omega arith in
      if_alike (λ (n : ℕ). n) (bit_of tc 14) _ _ _ _ (λ t. rw h) (λ f. rw k)

  pointer_low : (root : ℕ) → pointer_at root (a % 2 ^ 32) ≡ pointer_at root a
  pointer_low root = let h : a % 2 ^ 32 / 2 ^ 18 % 128 ≡ a / 2 ^ 18 % 128 = omega arith in rw h

  root_low : (g : Registers) (supervisor : Bool) → root_at g supervisor (a % 2 ^ 32) ≡ root_at g supervisor a
  root_low g supervisor = let h : a % 2 ^ 32 / 2 ^ 25 % 128 ≡ a / 2 ^ 25 % 128 = omega arith in rw h

  on_root_low : (m : Memory) (tc root : ℕ) (asked : List ℕ) → on_root m tc (a % 2 ^ 32) root asked ≡ on_root m tc a root asked
  on_root_low m tc root asked =
      rw (
        pointer_low root,
        long_next (pointer_at root a) asked (λ pointer asked. on_pointer m tc (a % 2 ^ 32) root pointer asked) (λ pointer asked. on_pointer m tc a root pointer asked)
            (λ pointer asked. rw (page_low tc pointer)) (fetch_of m (pointer_at root a)),
      )

  pub narrow_040 : (m : Memory) (g : Registers) (supervisor : Bool) → walk040 m g (a % 2 ^ 32) supervisor ≡ walk040 m g a supervisor
  unfolding walk040
  narrow_040 m g supervisor =
      rw (
        root_low g supervisor,
        long_next (root_at g supervisor a) [] (λ root asked. on_root m g.tc (a % 2 ^ 32) root asked) (λ root asked. on_root m g.tc a root asked)
            (λ root asked. on_root_low m g.tc root asked) (fetch_of m (root_at g supervisor a)),
      )
