-- What is left of both is ordered as they are.
use Rattle.std.proofs.Common.{◌≡◌, ◌≤◌, ◌-◌, length, drop}
use Rattle.resb_read.specs.Inner.Naming.{order_ended}
use Rattle.resb_read.proofs.keys.order.Given as goal

abbrev pub invariant-bytes : goal.invariant-bytes
invariant-bytes l =
    (l.same ≤ length l.wanted) × (l.same ≤ length l.key)
    × (order_ended (drop l.same l.wanted) (drop l.same l.key) ≡ order_ended l.wanted l.key)

abbrev pub decreases-bytes : goal.decreases-bytes
decreases-bytes l = length l.wanted - l.same
