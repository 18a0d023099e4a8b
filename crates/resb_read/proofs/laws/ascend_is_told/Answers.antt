use Rattle.resb_read.proofs.Lasts.{ascend_is_told}
use Rattle.resb_read.proofs.laws.ascend_is_told.Goals as goal

pub returns : goal.returns
returns c = ascend_is_told
