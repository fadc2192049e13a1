use Rattle.std.proofs.Common.{◌≡◌, ℕ, ◌+◌, ◌-◌, ◌*◌, length, drop}
use Rattle.definition.specs.Walk030.{used}
use Rattle.definition.specs.List.{entry_at, table_ranges, entry_ranges, ranges_from}
use Rattle.list.specs.Writing.{written, puts}
use Rattle.list.proofs.Output.{Going}
use Rattle.list.proofs.+entry_table.Given as goal

-- the levels left, of the four; an entry stands between its table and its own
abbrev pub decreases-entry : goal.decreases-entry
decreases-entry l = 2 * (4 - l.level) + 1

abbrev pub decreases-table : goal.decreases-table
decreases-table l = 2 * (4 - l.level)

abbrev pub invariant-table-loop-i : goal.invariant-table-loop-i
invariant-table-loop-i l =
    (length l.out ≡ length l.fn.out)
    × Going
    (λ (j : ℕ). ranges_from l.from (entry_ranges l.tables (used (drop (l.level + 1) l.ws)) (entry_at l.t l.w j)))
    l.n
    (puts (ranges_from l.from (table_ranges l.tables (used (drop l.level l.ws)) l.t)) (written l.fn.out l.fn.s))
    l.i
    (written l.out l.so)
