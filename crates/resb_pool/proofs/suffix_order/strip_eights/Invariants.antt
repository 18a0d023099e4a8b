use Rattle.std.proofs.Common.{length}
use Rattle.resb_pool.specs.Inner.Cuts.{ShareEnd}
use Rattle.resb_pool.proofs.suffix_order.strip_eights.Given as goal

abbrev pub invariant-blocks-2 : goal.invariant-blocks-2
invariant-blocks-2 l = ShareEnd l.left l.right l.lefts l.rights

abbrev pub decreases-blocks-2 : goal.decreases-blocks-2
decreases-blocks-2 l = length l.lefts
