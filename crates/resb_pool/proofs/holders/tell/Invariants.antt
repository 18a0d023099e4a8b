use Rattle.std.proofs.Common.{take}
use Rattle.resb_pool.specs.Plan.{nows}
use Rattle.resb_pool.specs.Inner.ToldApart.{AreTold}
use Rattle.resb_pool.proofs.holders.tell.Given as goal

abbrev pub invariant-loop-text : goal.invariant-loop-text
invariant-loop-text l = AreTold (nows (take l.text-index l.strings)) (nows l.told.distinct.keys)
    l.told.order.items
