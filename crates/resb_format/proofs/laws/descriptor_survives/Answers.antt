use Rattle.resb_format.proofs.Survival.{descriptor_survives}
use Rattle.resb_format.proofs.laws.descriptor_survives.Goals as goal

pub returns : goal.returns
returns c = descriptor_survives
