use Rattle.resb.proofs.Orders.{swapped_is_denoted}
use Rattle.resb.proofs.laws.swapped_is_denoted.Goals as goal

pub returns : goal.returns
returns c = swapped_is_denoted
