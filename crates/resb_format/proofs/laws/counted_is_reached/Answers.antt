use Rattle.resb_format.proofs.Denoting.{reached}
use Rattle.resb_format.proofs.laws.counted_is_reached.Goals as goal

pub returns : goal.returns
returns c = λ p w m n t d h k. reached p d m h k
