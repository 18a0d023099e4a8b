use Rattle.resb_write.proofs.OneBlock.{one_block}
use Rattle.resb_write.proofs.laws.one_block.Goals as goal

pub returns : goal.returns
returns c = one_block
