use Rattle.std.proofs.Common.{arith}
use Rattle.resb_tree.proofs.ComparingLemmas.{comparing_steps}
use Rattle.resb_tree.proofs.equality.open_entries.Goals as goal

pub returns-then-len-clause-equal : goal.returns-then-len-clause-equal
returns-then-len-clause-equal c = grind (arith, comparing_steps)

pub returns-clause-count : goal.returns-clause-count
returns-clause-count c = grind (arith, comparing_steps)
