-- Calls go down in depth. What is taken apart leaves less on the lists.
use Rattle.std.proofs.Common.{◌+◌, ◌≤◌, ◌<◌}
use Rattle.std.specs.BTreeMap.{values}
use Rattle.resb_tree.specs.Inner.Dropping.{count, counts, table_count, depth, depth_of}
use Rattle.resb_tree.proofs.+dropping.Given as goal

abbrev pub decreases-dropping::drop_all : goal.decreases-dropping::drop_all
decreases-dropping::drop_all l = depth_of l.pending.items

abbrev pub invariant-dropping::drop_all-pending : goal.invariant-dropping::drop_all-pending
invariant-dropping::drop_all-pending l = depth_of l.pending.items ≤ depth_of l.fn.pending.items

abbrev pub decreases-dropping::drop_all-pending : goal.decreases-dropping::drop_all-pending
decreases-dropping::drop_all-pending l = counts l.pending.items

abbrev pub invariant-dropping::drop_all-members : goal.invariant-dropping::drop_all-members
invariant-dropping::drop_all-members l =
    (counts l.pending.items + count l.resource
    ≤ counts l.initial.pending.items + count l.initial.resource)
    × (depth_of l.pending.items ≤ depth_of l.fn.pending.items)
    × (depth l.resource ≤ depth_of l.fn.pending.items)

abbrev pub decreases-dropping::drop_all-members : goal.decreases-dropping::drop_all-members
decreases-dropping::drop_all-members l = count l.resource

abbrev pub invariant-resource::Resource::drop-entries
    : goal.invariant-resource::Resource::drop-entries
invariant-resource::Resource::drop-entries l = depth_of (values l.table) < depth l.fn.self

abbrev pub decreases-resource::Resource::drop-entries
    : goal.decreases-resource::Resource::drop-entries
decreases-resource::Resource::drop-entries l = table_count l.table

abbrev pub invariant-resource::Resource::drop-values
    : goal.invariant-resource::Resource::drop-values
invariant-resource::Resource::drop-values l =
    (counts l.pending.items + table_count l.table
    ≤ counts l.initial.pending.items + table_count l.initial.table)
    × (depth_of l.pending.items < depth l.fn.self)
    × (depth_of (values l.table) < depth l.fn.self)

abbrev pub decreases-resource::Resource::drop-values
    : goal.decreases-resource::Resource::drop-values
decreases-resource::Resource::drop-values l = table_count l.table
