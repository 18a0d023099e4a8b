use Rattle.std.proofs.Common.{arith}
use Rattle.resb_tree.proofs.DroppingLemmas.{drop_steps}
use Rattle.resb_tree.proofs.equality.Items.next.Goals as goal

pub returns-in-Some-Some-clause-count : goal.returns-in-Some-Some-clause-count
returns-in-Some-Some-clause-count c = grind (arith, drop_steps)

pub returns-in-None-None-clause-count : goal.returns-in-None-None-clause-count
returns-in-None-None-clause-count c = grind (arith, drop_steps)

pub returns-in_default-clause-count : goal.returns-in_default-clause-count
returns-in_default-clause-count c = grind (arith, drop_steps)
