use Rattle.resb.proofs.ReadBack.{written_is_read}
use Rattle.resb.proofs.laws.written_is_read.Goals as goal

pub returns : goal.returns
returns c = written_is_read
