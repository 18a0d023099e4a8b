use Rattle.resb_format.proofs.Beside.{looked_up_alone}
use Rattle.resb_format.proofs.laws.own_keys_and_texts_are_looked_up.Goals as goal

pub returns : goal.returns
returns c = λ p k i e. looked_up_alone p k i e
