use Rattle.resb.proofs.ReadBack.{written_is_read_with_pool}
use Rattle.resb.proofs.laws.written_is_read_with_pool.Goals as goal

pub returns : goal.returns
returns c = written_is_read_with_pool
