use Rattle.std.proofs.Common.{take}
use Rattle.resb_lent.specs.Inner.EndNumbers.{AreNumbers}
use Rattle.resb_lent.proofs.ends.numbers_of.Given as goal

abbrev pub invariant-loop-run : goal.invariant-loop-run
invariant-loop-run l = AreNumbers (take l.run-index l.runs) l.numbers.items
