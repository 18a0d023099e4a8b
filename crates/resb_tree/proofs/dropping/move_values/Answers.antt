use Rattle.std.proofs.Common.{arith}
use Rattle.resb_tree.proofs.DroppingLemmas.{drop_steps}
use Rattle.resb_tree.proofs.dropping.move_values.Goals as goal

pub entries-init : goal.entries-init
entries-init c = grind (arith, drop_steps)

pub returns-in-Some-set_aside-clause-all : goal.returns-in-Some-set_aside-clause-all
returns-in-Some-set_aside-clause-all c = grind (arith, drop_steps)

pub returns-in-Some-set_aside-clause-count : goal.returns-in-Some-set_aside-clause-count
returns-in-Some-set_aside-clause-count c = grind (arith, drop_steps)

pub entries-smaller-in_default-set_aside : goal.entries-smaller-in_default-set_aside
entries-smaller-in_default-set_aside c = grind (arith, drop_steps)

pub entries-preserved-in_default-set_aside : goal.entries-preserved-in_default-set_aside
entries-preserved-in_default-set_aside c = grind (arith, drop_steps)

pub entries-smaller : goal.entries-smaller
entries-smaller c = grind (arith, drop_steps)

pub entries-preserved : goal.entries-preserved
entries-preserved c = grind (arith, drop_steps)

pub returns-clause-count : goal.returns-clause-count
returns-clause-count c = grind (arith, drop_steps)
