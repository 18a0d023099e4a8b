use Rattle.resb_read.proofs.Limited.{one_refusal_within}
use Rattle.resb_read.proofs.laws.one_refusal_within.Goals as goal

pub returns : goal.returns
returns c = one_refusal_within
