use Rattle.resb_read.proofs.OneValue.{one_value}
use Rattle.resb_read.proofs.laws.one_value.Goals as goal

pub returns : goal.returns
returns c = one_value
