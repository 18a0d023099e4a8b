use Rattle.resb_head.proofs.Survival.{version_survives}
use Rattle.resb_head.proofs.laws.version_survives.Goals as goal

pub returns : goal.returns
returns c = version_survives
