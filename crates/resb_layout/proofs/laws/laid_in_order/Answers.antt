use Rattle.resb_layout.proofs.InOrderLemmas.{laid_in_order}
use Rattle.resb_layout.proofs.laws.laid_in_order.Goals as goal

pub returns : goal.returns
returns c = laid_in_order
