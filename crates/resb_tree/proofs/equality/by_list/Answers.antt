use Rattle.std.proofs.Common.{arith}
use Rattle.resb_tree.proofs.ComparingLemmas.{comparing_steps}
use Rattle.resb_tree.proofs.equality.by_list.Goals as goal

pub pairs-init : goal.pairs-init
pairs-init c = grind (arith, comparing_steps)

pub pairs-smaller-in-Ok : goal.pairs-smaller-in-Ok
pairs-smaller-in-Ok c = grind (arith, comparing_steps)

pub pairs-preserved-in-Ok : goal.pairs-preserved-in-Ok
pairs-preserved-in-Ok c = grind (arith, comparing_steps)

pub returns-then-not-by_calls : goal.returns-then-not-by_calls
returns-then-not-by_calls c = grind (arith, comparing_steps)

pub pairs-smaller-in-Err : goal.pairs-smaller-in-Err
pairs-smaller-in-Err c = grind (arith, comparing_steps)

pub pairs-preserved-in-Err : goal.pairs-preserved-in-Err
pairs-preserved-in-Err c = grind (arith, comparing_steps)

pub pairs-smaller : goal.pairs-smaller
pairs-smaller c = grind (arith, comparing_steps)

pub pairs-preserved : goal.pairs-preserved
pairs-preserved c = grind (arith, comparing_steps)

pub returns-in-None : goal.returns-in-None
returns-in-None c = grind (arith, comparing_steps)

pub returns-in-Decided-false : goal.returns-in-Decided-false
returns-in-Decided-false c = grind (arith, comparing_steps)
