use Rattle.resb_lent.proofs.HeadRead.{head_with_pool_is_read}
use Rattle.resb_lent.proofs.laws.head_with_pool_is_read.Goals as goal

pub returns : goal.returns
returns c = head_with_pool_is_read
