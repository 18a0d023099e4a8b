use Rattle.resb_format.proofs.Denoting.{lower}
use Rattle.resb_format.proofs.laws.reaching_goes_down.Goals as goal

pub returns : goal.returns
returns c = λ p w m n r h k. lower p r m h k
