use Rattle.resb_lent.proofs.Read.{lent_text_is_read}
use Rattle.resb_lent.proofs.laws.lent_text_is_read.Goals as goal

pub returns : goal.returns
returns c = lent_text_is_read
