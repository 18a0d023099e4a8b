use Rattle.std.proofs.Common.{arith}
use Rattle.resb_tree.proofs.DroppingLemmas.{drop_steps}
use Rattle.resb_tree.proofs.dropping.move_items.Goals as goal

pub items-init : goal.items-init
items-init c = grind (arith, drop_steps)

pub returns-in-Some-set_aside-clause-all : goal.returns-in-Some-set_aside-clause-all
returns-in-Some-set_aside-clause-all c = grind (arith, drop_steps)

pub returns-in-Some-set_aside-clause-count : goal.returns-in-Some-set_aside-clause-count
returns-in-Some-set_aside-clause-count c = grind (arith, drop_steps)

pub items-smaller : goal.items-smaller
items-smaller c = grind (arith, drop_steps)

pub items-preserved : goal.items-preserved
items-preserved c = grind (arith, drop_steps)

pub returns-clause-all : goal.returns-clause-all
returns-clause-all c = grind (arith, drop_steps)

pub returns-clause-count : goal.returns-clause-count
returns-clause-count c = grind (arith, drop_steps)
