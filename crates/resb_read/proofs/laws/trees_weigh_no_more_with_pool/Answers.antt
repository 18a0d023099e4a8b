use Rattle.resb_read.proofs.WithPool.{no_more_with_pool}
use Rattle.resb_read.proofs.laws.trees_weigh_no_more_with_pool.Goals as goal

pub returns : goal.returns
returns c = no_more_with_pool
