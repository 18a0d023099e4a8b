use Rattle.resb_read.proofs.WithPool.{one_refusal_within_with_pool}
use Rattle.resb_read.proofs.laws.one_refusal_within_with_pool.Goals as goal

pub returns : goal.returns
returns c = one_refusal_within_with_pool
