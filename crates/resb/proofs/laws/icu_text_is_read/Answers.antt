use Rattle.resb.proofs.ReadBack.{icu_text_is_read}
use Rattle.resb.proofs.laws.icu_text_is_read.Goals as goal

pub returns : goal.returns
returns c = icu_text_is_read
