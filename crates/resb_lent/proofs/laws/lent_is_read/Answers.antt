use Rattle.resb_lent.proofs.ReadBeside.{lent_is_read}
use Rattle.resb_lent.proofs.laws.lent_is_read.Goals as goal

pub returns : goal.returns
returns c = lent_is_read
