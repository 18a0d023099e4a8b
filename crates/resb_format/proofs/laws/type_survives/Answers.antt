use Rattle.resb_format.proofs.Survival.{type_survives}
use Rattle.resb_format.proofs.laws.type_survives.Goals as goal

pub returns : goal.returns
returns c = type_survives
