use Rattle.resb_swap.proofs.Swaps.{one}
use Rattle.resb_swap.proofs.laws.one_swap.Goals as goal

pub returns : goal.returns
returns c = one
