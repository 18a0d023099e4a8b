use Rattle.resb_pool_maker.proofs.Made.{made_pool_is_read}
use Rattle.resb_pool_maker.proofs.laws.made_pool_is_read.Goals as goal

pub returns : goal.returns
returns c = made_pool_is_read
