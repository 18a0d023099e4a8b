use Rattle.resb_head.proofs.Survival.{charset_survives}
use Rattle.resb_head.proofs.laws.charset_survives.Goals as goal

pub returns : goal.returns
returns c = charset_survives
