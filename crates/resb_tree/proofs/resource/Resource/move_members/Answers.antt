use Rattle.std.proofs.Common.{arith}
use Rattle.resb_tree.proofs.DroppingLemmas.{drop_steps}
use Rattle.resb_tree.proofs.resource.Resource.move_members.Goals as goal

pub returns-in-Array-clause-all : goal.returns-in-Array-clause-all
returns-in-Array-clause-all c = grind (arith, drop_steps)

pub returns-in-Array-clause-count : goal.returns-in-Array-clause-count
returns-in-Array-clause-count c = grind (arith, drop_steps)

pub returns-in-Table-clause-all : goal.returns-in-Table-clause-all
returns-in-Table-clause-all c = grind (arith, drop_steps)

pub returns-in-Table-clause-count : goal.returns-in-Table-clause-count
returns-in-Table-clause-count c = grind (arith, drop_steps)

pub returns-in-String-clause-count : goal.returns-in-String-clause-count
returns-in-String-clause-count c = grind (arith, drop_steps)
