use Rattle.resb_format.proofs.Denoting.{reached_at_most}
use Rattle.resb_format.proofs.laws.reached_is_counted.Goals as goal

pub returns : goal.returns
returns c = λ p w m n t d r. reached_at_most p d r
