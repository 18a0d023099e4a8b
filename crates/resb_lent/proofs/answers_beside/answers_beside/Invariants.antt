use Rattle.std.proofs.Common.{ℕ, List, take}
use Rattle.resb_pool.specs.Plan.{nows}
use Rattle.resb_pool.specs.declared.packing.Packing.TheVariants.{Compact}
use Rattle.resb_lent.specs.Lending.{LendsTexts}
use Rattle.resb_lent.specs.PlanWithPool.{AreLentBy}
use Rattle.resb_lent.proofs.answers_beside.answers_beside.Given as goal

abbrev pub invariant-loop-number : goal.invariant-loop-number
invariant-loop-number l = (block : List ℕ) → LendsTexts l.lent block
    → AreLentBy Compact block (nows l.strings) (nows (take l.number l.strings))
    l.answers.items
