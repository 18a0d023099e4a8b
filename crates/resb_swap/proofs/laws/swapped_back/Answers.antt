use Rattle.resb_swap.proofs.Swaps.{swaps_back}
use Rattle.resb_swap.proofs.laws.swapped_back.Goals as goal

pub returns : goal.returns
returns c = swaps_back
