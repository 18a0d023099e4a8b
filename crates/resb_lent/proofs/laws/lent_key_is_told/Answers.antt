use Rattle.resb_lent.proofs.Told.{lent_key_is_told}
use Rattle.resb_lent.proofs.laws.lent_key_is_told.Goals as goal

pub returns : goal.returns
returns c = lent_key_is_told
