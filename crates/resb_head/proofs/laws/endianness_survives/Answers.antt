use Rattle.resb_head.proofs.Survival.{endianness_survives}
use Rattle.resb_head.proofs.laws.endianness_survives.Goals as goal

pub returns : goal.returns
returns c = endianness_survives
