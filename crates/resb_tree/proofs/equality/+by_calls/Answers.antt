use Rattle.std.proofs.Common.{arith}
use Rattle.resb_tree.proofs.ComparingLemmas.{comparing_steps}
use Rattle.resb_tree.proofs.equality.+by_calls.Goals as goal

pub members-init : goal.members-init
members-init c = grind (arith, comparing_steps)

pub by_calls-requires : goal.by_calls-requires
by_calls-requires c = grind (arith, comparing_steps)

pub returns-then-not-by_calls : goal.returns-then-not-by_calls
returns-then-not-by_calls c = grind (arith, comparing_steps)

pub members-smaller : goal.members-smaller
members-smaller c = grind (arith, comparing_steps)

pub members-preserved : goal.members-preserved
members-preserved c = grind (arith, comparing_steps)

pub returns-in-Decided : goal.returns-in-Decided
returns-in-Decided c = grind (arith, comparing_steps)
