use Rattle.resb_read.proofs.WithPool.{one_weight_with_pool}
use Rattle.resb_read.proofs.laws.one_weight_with_pool.Goals as goal

pub returns : goal.returns
returns c = one_weight_with_pool
