use Rattle.resb_lent.proofs.PlanRead.{planned_is_read}
use Rattle.resb_lent.proofs.laws.planned_is_read.Goals as goal

pub returns : goal.returns
returns c = planned_is_read
