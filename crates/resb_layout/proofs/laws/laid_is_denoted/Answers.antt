use Rattle.resb_layout.proofs.Denoted.{laid_is_denoted}
use Rattle.resb_layout.proofs.laws.laid_is_denoted.Goals as goal

pub returns : goal.returns
returns c = laid_is_denoted
