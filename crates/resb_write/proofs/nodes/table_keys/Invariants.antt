use Rattle.std.proofs.Common.{take}
use Rattle.std.specs.List.{flat_map}
use Rattle.resb_tree.specs.LayingOrder.{own_keys, trees_in}
use Rattle.resb_write.specs.Inner.Numbered.{NumbersKeys}
use Rattle.resb_write.proofs.nodes.table_keys.Given as goal

abbrev pub invariant-loop-at : goal.invariant-loop-at
invariant-loop-at l = NumbersKeys l.keys (flat_map own_keys (trees_in (take l.at l.order.items)))
