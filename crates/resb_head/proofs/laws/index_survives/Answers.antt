use Rattle.resb_head.proofs.IndexSurvival.{index_survives}
use Rattle.resb_head.proofs.laws.index_survives.Goals as goal

pub returns : goal.returns
returns c = index_survives
