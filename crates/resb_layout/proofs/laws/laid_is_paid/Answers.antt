use Rattle.resb_layout.proofs.Paid.{laid_is_paid}
use Rattle.resb_layout.proofs.laws.laid_is_paid.Goals as goal

pub returns : goal.returns
returns c = laid_is_paid
