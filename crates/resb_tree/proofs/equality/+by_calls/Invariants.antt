use Rattle.std.proofs.Common.{◌≡◌, ◌≤◌}
use Rattle.resb_tree.specs.Inner.Comparing.{open_eq, to_come}
use Rattle.resb_tree.proofs.equality.+by_calls.Given as goal

abbrev pub decreases-by_calls : goal.decreases-by_calls
decreases-by_calls l = to_come l.pair

abbrev pub invariant-members : goal.invariant-members
invariant-members l =
    (open_eq l.pair ≡ open_eq l.fn.pair) × (to_come l.pair ≤ to_come l.fn.pair)

abbrev pub decreases-members : goal.decreases-members
decreases-members l = to_come l.pair
