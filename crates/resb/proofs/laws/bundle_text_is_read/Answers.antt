use Rattle.resb.proofs.ReadBack.{bundle_text_is_read}
use Rattle.resb.proofs.laws.bundle_text_is_read.Goals as goal

pub returns : goal.returns
returns c = bundle_text_is_read
