use Rattle.std.proofs.Common.{take}
use Rattle.resb_tree.specs.LayingOrder.{trees_in}
use Rattle.resb_write.specs.Inner.Nodes.{AreNodes}
use Rattle.resb_write.proofs.nodes.nodes_of.Given as goal

abbrev pub invariant-loop-at : goal.invariant-loop-at
invariant-loop-at l = AreNodes l.nodes.items (trees_in (take l.at l.order.items))
