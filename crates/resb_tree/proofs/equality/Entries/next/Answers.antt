use Rattle.std.proofs.Common.{arith}
use Rattle.resb_tree.proofs.DroppingLemmas.{drop_steps}
use Rattle.resb_tree.proofs.equality.Entries.next.Goals as goal

pub returns-then-ne-clause-count : goal.returns-then-ne-clause-count
returns-then-ne-clause-count c = grind (arith, drop_steps)

pub returns-else-ne-clause-count : goal.returns-else-ne-clause-count
returns-else-ne-clause-count c = grind (arith, drop_steps)

pub returns-in-None-None-clause-count : goal.returns-in-None-None-clause-count
returns-in-None-None-clause-count c = grind (arith, drop_steps)

pub returns-in_default-clause-count : goal.returns-in_default-clause-count
returns-in_default-clause-count c = grind (arith, drop_steps)
