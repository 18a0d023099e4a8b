use Rattle.resb_pool.proofs.IsRead.{pool_is_read}
use Rattle.resb_pool.proofs.laws.pool_is_read.Goals as goal

pub returns : goal.returns
returns c = λ way S us offset. pool_is_read way S us offset
