use Rattle.std.proofs.Common.{◌≡◌, ◌≤◌}
use Rattle.resb_tree.specs.Inner.Comparing.{open_eq, to_come}
use Rattle.resb_tree.proofs.equality.Open.look_at_next.Given as goal

abbrev pub invariant-members : goal.invariant-members
invariant-members l =
    (open_eq l.self ≡ open_eq l.initial.self) × (to_come l.self ≤ to_come l.initial.self)

abbrev pub decreases-members : goal.decreases-members
decreases-members l = to_come l.self
