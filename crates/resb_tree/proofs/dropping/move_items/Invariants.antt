use Rattle.std.proofs.Common.{◌+◌, ◌≤◌, max, vec_len}
use Rattle.resb_tree.specs.Inner.Dropping.{counts, depth_of}
use Rattle.resb_tree.proofs.dropping.move_items.Given as goal

abbrev pub invariant-items : goal.invariant-items
invariant-items l =
    (counts l.items.items ≤ counts l.initial.items.items)
    × (counts l.pending.items + counts l.items.items
    ≤ counts l.initial.pending.items + counts l.initial.items.items)
    × (depth_of l.items.items ≤ depth_of l.initial.items.items)
    × (depth_of l.pending.items
    ≤ max (depth_of l.initial.pending.items) (depth_of l.initial.items.items))

abbrev pub decreases-items : goal.decreases-items
decreases-items l = vec_len l.items
