-- What was found, and what is still to be looked at, come to what differs.
use Rattle.std.proofs.Common.{◌≡◌, [], length, reverse}
use Rattle.resb_tree.specs.View.{tree_of}
use Rattle.resb_diff.specs.Differences.{differences}
use Rattle.resb_diff.specs.Inner.Walking.{all_found, weights, AreWithin}
use Rattle.resb_diff.proofs.walk.differences_between.Given as goal

abbrev pub invariant-loop-next : goal.invariant-loop-next
invariant-loop-next l =
    (all_found l.paths l.found.items (reverse l.pending.items)
    ≡ differences [] (tree_of l.fn.old) (tree_of l.fn.new))
    × AreWithin (length l.paths) l.found.items
    × AreWithin (length l.paths) (reverse l.pending.items)

abbrev pub decreases-loop-next : goal.decreases-loop-next
decreases-loop-next l = weights (reverse l.pending.items)
