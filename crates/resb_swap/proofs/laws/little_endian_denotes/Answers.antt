use Rattle.resb_swap.proofs.Orders.{little_endian_denotes}
use Rattle.resb_swap.proofs.laws.little_endian_denotes.Goals as goal

pub returns : goal.returns
returns c = little_endian_denotes
