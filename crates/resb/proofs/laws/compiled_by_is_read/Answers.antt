use Rattle.resb.proofs.ReadBack.{compiled_by_is_read}
use Rattle.resb.proofs.laws.compiled_by_is_read.Goals as goal

pub returns : goal.returns
returns c = compiled_by_is_read
