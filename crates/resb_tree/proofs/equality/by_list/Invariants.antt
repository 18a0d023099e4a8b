-- What is still to come of all open collections is equal where the two were.
use Rattle.std.proofs.Common.{◌≡◌, ◌+◌, ◌&&◌}
use Rattle.resb_tree.specs.Inner.Comparing.{open_eq, to_come, all_eq, all_steps}
use Rattle.resb_tree.proofs.equality.by_list.Given as goal

abbrev pub invariant-pairs : goal.invariant-pairs
invariant-pairs l = open_eq l.fn.pair ≡ (open_eq l.pair && all_eq l.around.items)

abbrev pub decreases-pairs : goal.decreases-pairs
decreases-pairs l = to_come l.pair + to_come l.pair + all_steps l.around.items
