use Rattle.resb.proofs.Orders.{little_endian_is_read}
use Rattle.resb.proofs.laws.little_endian_is_read.Goals as goal

pub returns : goal.returns
returns c = little_endian_is_read
