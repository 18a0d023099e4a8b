use Rattle.std.proofs.Common.{◌≡◌, ◌++◌, reverse}
use Rattle.std.specs.List.{flat_map, sum_by}
use Rattle.resb_tree.specs.Tree.{tree_count}
use Rattle.resb_tree.specs.View.{tree_of}
use Rattle.resb_tree.specs.LayingOrder.{laying_order, trees_in}
use Rattle.resb_tree.proofs.laying_order.push_laid.Given as goal

abbrev pub invariant-loop-resource : goal.invariant-loop-resource
invariant-loop-resource l = flat_map laying_order (trees_in l.pending.items) ++ reverse
    (trees_in l.order.items) ≡ laying_order (tree_of l.root)

abbrev pub decreases-loop-resource : goal.decreases-loop-resource
decreases-loop-resource l = sum_by tree_count (trees_in l.pending.items)
