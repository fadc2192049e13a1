-- Document 01, 'The 68040 walk, also for family 60'.
use Rattle.std.specs.Prelude.{ℕ, ◌+◌, ◌*◌, ◌/◌, ◌%◌, ◌^◌, List, [], ◌∷◌, ◌++◌, Bool, false, ◌||◌, ltb, eqb, if◌then◌else◌, Option, Some, None}
use Rattle.definition.specs.Words.{bit_of}
use Rattle.definition.specs.Memory.{Memory, fetch_of}
use Rattle.definition.specs.Walk030.{entry_of}
use Rattle.definition.specs.Types.{End040, Resident, Absent, Lost, FaultCause, Registers}

-- how a walk ended, with the address of each long that it asked for
pub record Outcome040 : Type 0 where
  pub end : End040
  pub asked : List ℕ

-- by its parts
abbrev pub ended040 : End040 → List ℕ → Outcome040
ended040 e asked = record { end = e; asked = asked }

-- the long at `at` is asked for, after those before it: what it gives decides, or it fails
abbrev pub on_long : ℕ → List ℕ → (ℕ → List ℕ → Outcome040) → Option ℕ → Outcome040
on_long at before next None = ended040 (Lost at) (before ++ (at ∷ []))
on_long at before next (Some x) = next x (before ++ (at ∷ []))

-- and so by what the memory gives
abbrev pub asks : Memory → ℕ → List ℕ → (ℕ → List ℕ → Outcome040) → Outcome040
asks m at before next = on_long at before next (fetch_of m at)

-- entry i of a table of longs
abbrev pub long_at : ℕ → ℕ → ℕ
long_at table index = entry_of table index false

-- 'with TC bit 14': 13 bits lie in a page, else 12
abbrev pub page_bits : ℕ → ℕ
page_bits tc = if bit_of tc 14 then 13 else 12

-- 'Root SRP (supervisor) or CRP & FFFFFE00, index bits 31:25'
abbrev pub root_at : Registers → Bool → ℕ → ℕ
root_at g supervisor address =
    long_at ((if supervisor then g.srp.address else g.crp.address) / 512 * 512) (address / 2 ^ 25 % 128)

-- 'Table & FFFFFE00, index 24:18'
abbrev pub pointer_at : ℕ → ℕ → ℕ
pointer_at root address = long_at (root / 512 * 512) (address / 2 ^ 18 % 128)

-- 'Page table & FFFFFF00 with 17:12, or with TC bit 14 & FFFFFF80 with 17:13.'
abbrev pub page_at : ℕ → ℕ → ℕ → ℕ
page_at tc pointer address =
    if bit_of tc 14
    then long_at (pointer / 128 * 128) (address / 2 ^ 13 % 32)
    else long_at (pointer / 256 * 256) (address / 2 ^ 12 % 64)

-- 'then only type 0 is invalid'; 'W is bit 2 of any of the three, the target in place of the indirect one; S is bit 7 of the page.'
abbrev pub on_page : Bool → FaultCause → ℕ → List ℕ → Outcome040
on_page tables missing page asked =
    ended040 (if eqb (page % 4) 0 then Absent missing else Resident page (tables || bit_of page 2) (bit_of page 7)) asked

-- 'Type 2 is indirect at & FFFFFFFC, fetched once' '(Indirect or PageFault)'
abbrev pub on_entry : Memory → Bool → ℕ → List ℕ → Outcome040
on_entry m tables page asked =
    if eqb (page % 4) 2
    then asks m (page / 4 * 4) asked (λ target asked. on_page tables FaultCause.Indirect target asked)
    else on_page tables FaultCause.PageFault page asked

-- 'type below 2 PointerA. .. below 2 PointerB.'
abbrev pub on_pointer : Memory → ℕ → ℕ → ℕ → ℕ → List ℕ → Outcome040
on_pointer m tc address root pointer asked =
    if ltb (pointer % 4) 2
    then ended040 (Absent FaultCause.PointerB) asked
    else asks m (page_at tc pointer address) asked (λ page asked. on_entry m (bit_of root 2 || bit_of pointer 2) page asked)

-- by the root's entry
abbrev pub on_root : Memory → ℕ → ℕ → ℕ → List ℕ → Outcome040
on_root m tc address root asked =
    if ltb (root % 4) 2
    then ended040 (Absent FaultCause.PointerA) asked
    else asks m (pointer_at root address) asked (λ pointer asked. on_pointer m tc address root pointer asked)

-- from the root table's entry at `first`
abbrev pub walk040_from : Memory → ℕ → ℕ → ℕ → Outcome040
walk040_from m tc first address = asks m first [] (λ root asked. on_root m tc address root asked)

-- by the registers and the privilege
unfoldable pub walk040 : Memory → Registers → ℕ → Bool → Outcome040
walk040 m g address supervisor = walk040_from m g.tc (root_at g supervisor address) address

-- 'Physical is the page descriptor, its low 12 (or 13) bits replaced by the address's.'
abbrev pub frame_of : ℕ → ℕ → ℕ
frame_of tc page = page / 2 ^ page_bits tc * 2 ^ page_bits tc

-- with the address's low bits
abbrev pub physical040 : ℕ → ℕ → ℕ → ℕ
physical040 tc page address = (frame_of tc page + address % 2 ^ page_bits tc) % 2 ^ 32
