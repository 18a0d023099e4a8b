use Rattle.resb_read.proofs.Measures.{one_weight}
use Rattle.resb_read.proofs.laws.one_weight.Goals as goal

pub returns : goal.returns
returns c = one_weight
