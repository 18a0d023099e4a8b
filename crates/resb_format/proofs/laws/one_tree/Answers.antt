use Rattle.resb_format.proofs.Denoting.{unique}
use Rattle.resb_format.proofs.laws.one_tree.Goals as goal

pub returns : goal.returns
returns c = λ p w m n t u d e. unique p d e
