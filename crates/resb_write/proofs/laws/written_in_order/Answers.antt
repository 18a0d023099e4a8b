use Rattle.resb_write.proofs.Filled.{written_in_order}
use Rattle.resb_write.proofs.laws.written_in_order.Goals as goal

pub returns : goal.returns
returns c = written_in_order
