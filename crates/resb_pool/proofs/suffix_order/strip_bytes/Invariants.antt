use Rattle.std.proofs.Common.{length}
use Rattle.resb_pool.specs.Inner.Cuts.{ShareEnd}
use Rattle.resb_pool.proofs.suffix_order.strip_bytes.Given as goal

abbrev pub invariant-bytes : goal.invariant-bytes
invariant-bytes l = ShareEnd l.left l.right l.lefts l.rights

abbrev pub decreases-bytes : goal.decreases-bytes
decreases-bytes l = length l.lefts
