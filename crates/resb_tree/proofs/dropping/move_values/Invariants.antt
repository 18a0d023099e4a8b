use Rattle.std.proofs.Common.{◌+◌, ◌≤◌, max, length}
use Rattle.std.specs.BTreeMap.{values}
use Rattle.resb_tree.specs.Inner.Dropping.{counts, table_count, depth_of}
use Rattle.resb_tree.proofs.dropping.move_values.Given as goal

abbrev pub invariant-entries : goal.invariant-entries
invariant-entries l =
    (table_count l.table ≤ table_count l.initial.table)
    × (counts l.pending.items + table_count l.table
    ≤ counts l.initial.pending.items + table_count l.initial.table)
    × (depth_of (values l.table) ≤ depth_of (values l.initial.table))
    × (depth_of l.pending.items
    ≤ max (depth_of l.initial.pending.items) (depth_of (values l.initial.table)))

abbrev pub decreases-entries : goal.decreases-entries
decreases-entries l = length l.table.entries
