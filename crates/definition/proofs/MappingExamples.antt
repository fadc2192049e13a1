-- What is listed of document 01's tree, from a start on, into little room, of a tree that points back at itself, and of none. Assumes nothing.
use Prim.Native.Nat.{ℕ}
use mathlib.Core.Path.{◌≡◌, refl}
use mathlib.Core.List.{List, [], ◌∷◌}
use mathlib.Core.Bool.{true, false}
use Rattle.definition.specs.Words.{any_of}
use Rattle.definition.specs.Memory.{memory}
use Rattle.definition.specs.Walk030.{read_of, widths_of}
use Rattle.definition.specs.Refusal.{refusal_of}
use Rattle.definition.specs.List.{Listing, seen_of, gather, table_ranges, tree_ranges, ranges_from, list}
use Rattle.definition.specs.declared.Mapped.{Mapped}
use Rattle.definition.specs.declared.Listed.{Listed}
use Rattle.definition.proofs.Examples.{longs_of, registers, tree}

-- a page without WP and S
abbrev page : ℕ → ℕ → ℕ → Mapped
page first consumed physical =
    record { first = first; consumed = consumed; physical = physical; wp = false; sup = false; lost = false }

abbrev lost : ℕ → ℕ → Mapped
lost first consumed =
    record { first = first; consumed = consumed; physical = 0; wp = false; sup = false; lost = true }

abbrev gives : Listed → List Mapped → Listing
gives answer ranges = record { answer = answer; ranges = ranges }

-- 'longs: 1004=2002, 2004=3002, 3004=55001': 02041000-02041FFF at 00055000, once
pub document_tree : list (registers 30 0x80C07760 0x80000002) (memory (longs_of (tree 0x3002 0x55001)) 0 []) 1 0 8
    ≡ gives (Listed.All 1) (page 0x02041000 20 0x55000 ∷ [])
unfolding list refusal_of any_of tree_ranges table_ranges gather seen_of ranges_from read_of widths_of
document_tree = refl

-- two levels of one bit: a page below the first entry, and one at the second. A start inside a range lists it whole, and a range that finds no room is named
abbrev small : ℕ → ℕ → Listing
small from room = list (registers 30 0x80001100 0x80000002) (memory (0x1012 ∷ 0x201 ∷ 0 ∷ 0 ∷ 0 ∷ 0x305 ∷ []) 0x1000 []) 1 from room

pub small_tree : small 0 8 ≡ gives (Listed.All 2)
    (record { first = 0x40000000; consumed = 2; physical = 0x300; wp = true; sup = false; lost = false } ∷ page 0x80000000 1 0x200 ∷ [])
unfolding list refusal_of any_of tree_ranges table_ranges gather seen_of ranges_from read_of widths_of
small_tree = refl

pub start_inside : small 0x80000001 8 ≡ gives (Listed.All 1) (page 0x80000000 1 0x200 ∷ [])
unfolding list refusal_of any_of tree_ranges table_ranges gather seen_of ranges_from read_of widths_of
start_inside = refl

pub no_room : small 0x80000001 0 ≡ gives (Listed.More 0 0x80000000) []
unfolding list refusal_of any_of tree_ranges table_ranges gather seen_of ranges_from read_of widths_of
no_room = refl

-- four levels of one bit that all are the root table: on the last level its entries are indirect, and their target is of type 2
pub round_and_round : list (registers 30 0x80001111 0x80000002) (memory (0x1002 ∷ 0x1002 ∷ []) 0x1000 []) 1 0 8 ≡ gives (Listed.All 0) []
unfolding list refusal_of any_of tree_ranges table_ranges gather seen_of ranges_from read_of widths_of
round_and_round = refl

-- a root table that can't be fetched: a range for each of its entries. With a function-code level only the code's entry is asked for
pub unfetchable_root : list (registers 30 0x80001000 0x80000002) (memory [] 0 []) 1 0 8
    ≡ gives (Listed.All 2) (lost 0 1 ∷ lost 0x80000000 1 ∷ [])
unfolding list refusal_of any_of tree_ranges table_ranges gather seen_of ranges_from read_of widths_of
unfetchable_root = refl

pub unfetchable_code : list (registers 30 0x81001000 0x80000002) (memory [] 0 []) 1 0 8 ≡ gives (Listed.All 1) (lost 0 0 ∷ [])
unfolding list refusal_of any_of tree_ranges table_ranges gather seen_of ranges_from read_of widths_of
unfetchable_code = refl
