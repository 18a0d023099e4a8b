use Rattle.resb_lent.proofs.Once.{one_place}
use Rattle.resb_lent.proofs.laws.one_place.Goals as goal

pub returns : goal.returns
returns c = one_place
