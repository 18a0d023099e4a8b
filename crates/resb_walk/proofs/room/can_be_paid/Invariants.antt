use Rattle.std.proofs.Common.{◌+◌, ◌*◌, length}
use Rattle.resb_walk.proofs.room.can_be_paid.Given as goal

-- each member is paid for as its collection is opened
abbrev pub decreases-rounds : goal.decreases-rounds
decreases-rounds l = 2 * l.left + length l.around.items
