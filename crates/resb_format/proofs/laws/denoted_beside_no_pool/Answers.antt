use Rattle.resb_format.proofs.Beside.{denoted_beside}
use Rattle.resb_format.proofs.laws.denoted_beside_no_pool.Goals as goal

pub returns : goal.returns
returns c = λ p w n t e d. denoted_beside p w n t e d
