use Rattle.std.proofs.Common.{◌+◌}
use Rattle.std.specs.Slice.Iter.{iter_rest}
use Rattle.resb_tree.specs.Tree.{trees_count}
use Rattle.resb_tree.specs.View.{items_view}
use Rattle.resb_diff.specs.Inner.Walking.{trees_to_come}
use Rattle.resb_diff.proofs.MemberLemmas.{MembersSoFar}
use Rattle.resb_diff.proofs.members.members.Given as goal

abbrev pub invariant-loop-change : goal.invariant-loop-change
invariant-loop-change l =
    MembersSoFar l.fn.paths l.fn.from (items_view l.fn.old.items) (items_view l.fn.new.items)
    l.paths l.found.items l.one l.other (items_view (iter_rest l.olds))
    (items_view (iter_rest l.news))

abbrev pub decreases-loop-change : goal.decreases-loop-change
decreases-loop-change l =
    trees_count (trees_to_come l.one (items_view (iter_rest l.olds)))
    + trees_count (trees_to_come l.other (items_view (iter_rest l.news)))
