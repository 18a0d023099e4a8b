use Rattle.resb_pool.proofs.OnePool.{one_pool}
use Rattle.resb_pool.proofs.laws.one_pool.Goals as goal

pub returns : goal.returns
returns c = λ way S us vs offset place. one_pool way S us vs offset place
