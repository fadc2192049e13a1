-- Request 01, 'List what a table tree maps': the ranges of a 68030 tree in one code, over the walk's own descriptors and levels (`Walk030`).
-- That the list is what the walks find, address by address, is proved (proofs/Mapping.antt).
use Rattle.std.specs.Prelude.{ℕ, zero, suc, ◌+◌, ◌-◌, ◌*◌, ◌/◌, ◌%◌, ◌^◌, List, [], ◌∷◌, ◌++◌, Bool, true, false, not, ◌||◌, ltb, eqb, length, take, drop, if◌then◌else◌}
use Rattle.definition.specs.Words.{bit_of}
use Rattle.definition.specs.Types.{Registers, Root}
use Rattle.definition.specs.Memory.{Memory}
use Rattle.definition.specs.Registers.{root_of}
use Rattle.definition.specs.Walk030.{Descriptor, Whole, Lost, entry_of, read_of, widths_of, used, is_of, sum_of, by_kind}
use Rattle.definition.specs.Refusal.{Checks, no_family, bad_base, bad_range, above_seven, unless}
use Rattle.definition.specs.Audit.{is_access_code}
use Rattle.definition.specs.declared.Mapped.{Mapped}
use Rattle.definition.specs.declared.Node.{Node}
use Rattle.definition.specs.declared.Seen.{Seen}
use Rattle.definition.specs.declared.Seen.TheVariants.{Nothing, One, Opens}
use Rattle.definition.specs.declared.Listed.{Listed}
use Rattle.definition.specs.declared.Listed.TheVariants as listed

-- ---- one entry
-- 'first address, bits consumed, physical start, WP, S': the entry's stretch at its address field & FFFFFF00. 'WP and S add up'
abbrev pub page_at : Node → ℕ → Bool → Bool → Mapped
page_at e field wp sup =
    record {
      first = e.first;
      consumed = e.consumed;
      physical = field / 256 * 256;
      wp = e.wp || wp;
      sup = e.sup || sup;
      lost = false;
    }

-- 'A range whose descriptor can't be fetched is listed as such, physical start 0, WP and S clear.'
abbrev pub lost_at : Node → Mapped
lost_at e =
    record { first = e.first; consumed = e.consumed; physical = 0; wp = false; sup = false; lost = true }

-- an indirect descriptor's target: a page, or nothing where it is of another type
abbrev pub seen_target : Node → Descriptor → Seen
seen_target e (Lost at asked) = One (lost_at e)
seen_target e (Whole kind field wp sup asked) = if eqb kind 1 then One (page_at e field wp sup) else Nothing

-- the table that an entry names: at field & FFFFFFF0, short or long, of the entry's own stretch
abbrev pub table_at : Node → ℕ → ℕ → Bool → Bool → Node
table_at e kind field wp sup =
    record {
      at = field / 16 * 16;
      long = eqb kind 3;
      first = e.first;
      consumed = e.consumed;
      wp = e.wp || wp;
      sup = e.sup || sup;
    }

-- what an entry is by its descriptor: as in the walk, and on the last level types 2 and 3 are indirect
abbrev pub seen_by : Memory → Bool → Node → Descriptor → Seen
seen_by m last e (Lost at asked) = One (lost_at e)
seen_by m last e (Whole kind field wp sup asked) =
    by_kind kind Nothing (One (page_at e field wp sup))
    (if last
    then seen_target e (read_of m (field / 4 * 4) (eqb kind 3))
    else Opens (table_at e kind field wp sup))

unfoldable pub seen_of : Memory → Bool → Node → Seen
seen_of m last e = seen_by m last e (read_of m e.at e.long)

-- ---- a table and its entries
-- entry i of a table whose level has width w: the i-th of 2^w stretches of the table's
abbrev pub entry_at : Node → ℕ → ℕ → Node
entry_at t w i =
    record {
      at = entry_of t.at i t.long;
      long = t.long;
      first = t.first + i * 2 ^ (32 - (t.consumed + w));
      consumed = t.consumed + w;
      wp = t.wp;
      sup = t.sup;
    }

-- what f gives at i, i + 1, .., n of them, in a row
unfoldable pub gather : {A : Type 0} → (ℕ → List A) → ℕ → ℕ → List A
gather f i zero = []
gather f i (suc n) = f i ++ gather f (suc i) n

-- `next` lists a table
abbrev pub ranges_in : (Node → List Mapped) → Seen → List Mapped
ranges_in next Nothing = []
ranges_in next (One x) = x ∷ []
ranges_in next (Opens t) = next t

-- no level is left below an entry
abbrev pub none_left : List ℕ → Bool
none_left [] = true
none_left (w ∷ ws) = false

-- 'A table reads its entries and an entry opens its own table; trees that point back at themselves end too': by the widths of the levels left
unfoldable pub table_ranges : Memory → List ℕ → Node → List Mapped
table_ranges m [] t = []
table_ranges m (w ∷ ws) t =
    gather (λ (i : ℕ). ranges_in (λ (u : Node). table_ranges m ws u) (seen_of m (none_left ws) (entry_at t w i))) 0 (2 ^ w)

-- an entry, with the widths of the levels below it
abbrev pub entry_ranges : Memory → List ℕ → Node → List Mapped
entry_ranges m ws e = ranges_in (λ (u : Node). table_ranges m ws u) (seen_of m (none_left ws) e)

-- ---- a tree
-- 'The table is at address & FFFFFFF0': it has every address, and nothing is consumed
abbrev pub root_table : Root → Node
root_table root =
    record {
      at = root.address / 16 * 16;
      long = eqb (root.limit % 4) 3;
      first = 0;
      consumed = 0;
      wp = false;
      sup = false;
    }

-- 'TC bit 24 adds a function-code level first, indexed by the code and consuming nothing': of its table the code's entry alone, with every address
abbrev pub code_entry : Node → ℕ → Node
code_entry t code =
    record {
      at = entry_of t.at code t.long;
      long = t.long;
      first = t.first;
      consumed = t.consumed;
      wp = t.wp;
      sup = t.sup;
    }

unfoldable pub tree_ranges : Memory → ℕ → Root → ℕ → List Mapped
tree_ranges m tc root code =
    if bit_of tc 24
    then entry_ranges m (used (widths_of tc)) (code_entry (root_table root) code)
    else table_ranges m (used (widths_of tc)) (root_table root)

-- each mapped range of a code's tree, 'in ascending logical order'
abbrev pub mapped : Registers → Memory → ℕ → List Mapped
mapped g m code = tree_ranges m g.tc (root_of g code) code

-- ---- a start, and room
-- the first address behind a range of 2^(32 - consumed) addresses
abbrev pub end_of : Mapped → ℕ
end_of x = x.first + 2 ^ (32 - x.consumed)

-- 'A start inside a range lists that range whole': the ranges whose last address is `from` or above
unfoldable pub ranges_from : ℕ → List Mapped → List Mapped
ranges_from from [] = []
ranges_from from (x ∷ xs) = if ltb from (end_of x) then x ∷ ranges_from from xs else ranges_from from xs

-- what a list answers, and the ranges that it writes
pub record Listing : Type 0 where
  pub answer : Listed
  pub ranges : List Mapped

-- 'When a range finds no room in the lent output, its address is given to go on from'
abbrev pub stopping : ℕ → List Mapped → Listed
stopping count [] = listed.All count
stopping count (x ∷ xs) = listed.More count x.first

-- as many as there is room for
abbrev pub room_for : ℕ → List Mapped → Listing
room_for room xs = record { answer = stopping (length (take room xs)) (drop room xs); ranges = take room xs }

-- ---- the call
-- 'For code 1, 2, 5 or 6'; 'The lister takes IS 0, a level sum of 1 to 32 and a root of type 2 or 3; all else is refused with number 9.'
abbrev pub not_taken : Registers → ℕ → Bool
not_taken g code =
    not (eqb g.family 30)
    || not (is_access_code code)
    || not (eqb (is_of g.tc) 0)
    || eqb (sum_of (used (widths_of g.tc))) 0
    || ltb 32 (sum_of (used (widths_of g.tc)))
    || ltb ((root_of g code).limit % 4) 2

-- 1, 5, 2 and 3 come first, as in every call over tables
abbrev pub list_checks : Registers → Memory → ℕ → Checks
list_checks g m code =
    record {
      one = no_family g.family;
      two = bad_base m;
      three = bad_range m;
      four = false;
      five = above_seven code;
      six = false;
      eight = false;
    }

abbrev pub refusing : ℕ → Listing
refusing n = record { answer = listed.Refused n; ranges = [] }

-- the ranges of a code's tree from an address on, into so much room
unfoldable pub list : Registers → Memory → ℕ → ℕ → ℕ → Listing
list g m code from room =
    unless (list_checks g m code) refusing
    (if not_taken g code then refusing 9 else room_for room (ranges_from from (mapped g m code)))
