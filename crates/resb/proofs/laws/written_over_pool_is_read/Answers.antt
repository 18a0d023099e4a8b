use Rattle.resb.proofs.ReadBack.{written_over_pool_is_read}
use Rattle.resb.proofs.laws.written_over_pool_is_read.Goals as goal

pub returns : goal.returns
returns c = written_over_pool_is_read
