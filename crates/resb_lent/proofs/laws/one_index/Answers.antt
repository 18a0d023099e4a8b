use Rattle.resb_lent.proofs.Once.{one_index}
use Rattle.resb_lent.proofs.laws.one_index.Goals as goal

pub returns : goal.returns
returns c = one_index
