use Rattle.std.proofs.Common.{length}
use Rattle.std.specs.Str.Iter.{chars_rest}
use Rattle.resb_pool.specs.Inner.Cuts.{IsShared}
use Rattle.resb_pool.proofs.suffix_order.compare.Given as goal

abbrev pub invariant-loop-x : goal.invariant-loop-x
invariant-loop-x l = IsShared l.left l.right (chars_rest l.lefts) (chars_rest l.rights)

abbrev pub decreases-loop-x : goal.decreases-loop-x
decreases-loop-x l = length (chars_rest l.lefts)
