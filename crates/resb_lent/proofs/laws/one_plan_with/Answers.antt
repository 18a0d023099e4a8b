use Rattle.resb_lent.proofs.PlanRead.{one_plan_with}
use Rattle.resb_lent.proofs.laws.one_plan_with.Goals as goal

pub returns : goal.returns
returns c = one_plan_with
