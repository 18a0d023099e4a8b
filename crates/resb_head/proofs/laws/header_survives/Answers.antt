use Rattle.resb_head.proofs.HeaderSurvival.{header_survives}
use Rattle.resb_head.proofs.laws.header_survives.Goals as goal

pub returns : goal.returns
returns c = header_survives
