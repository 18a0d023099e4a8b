use Rattle.std.proofs.Common.{arith}
use Rattle.resb_tree.proofs.DroppingLemmas.{drop_steps}
use Rattle.resb_tree.proofs.equality.Open.look_at_next.Goals as goal

pub members-init : goal.members-init
members-init c = grind (arith, drop_steps)

pub returns-in-Ended-clause-equal : goal.returns-in-Ended-clause-equal
returns-in-Ended-clause-equal c = grind (arith, drop_steps)

pub returns-in-Ended-clause-count : goal.returns-in-Ended-clause-count
returns-in-Ended-clause-count c = grind (arith, drop_steps)

pub members-smaller : goal.members-smaller
members-smaller c = grind (arith, drop_steps)

pub members-preserved : goal.members-preserved
members-preserved c = grind (arith, drop_steps)

pub returns-in_default-clause-equal : goal.returns-in_default-clause-equal
returns-in_default-clause-equal c = grind (arith, drop_steps)

pub returns-in_default-clause-count : goal.returns-in_default-clause-count
returns-in_default-clause-count c = grind (arith, drop_steps)

pub returns-in_default-2-clause-equal : goal.returns-in_default-2-clause-equal
returns-in_default-2-clause-equal c = grind (arith, drop_steps)

pub returns-in_default-2-clause-count : goal.returns-in_default-2-clause-count
returns-in_default-2-clause-count c = grind (arith, drop_steps)
