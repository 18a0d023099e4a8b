use Rattle.std.proofs.Common.{arith}
use Rattle.resb_swap.proofs.Heads.{header_long}
use Rattle.resb_swap.proofs.head.read_head.Goals as goal

pub byte_at-requires : goal.byte_at-requires
byte_at-requires c = omega (arith, header_long _ c.in_ok-check_header.ensures)

pub byte_at-requires-2 : goal.byte_at-requires-2
byte_at-requires-2 c = omega (arith, header_long _ c.in_ok-check_header.ensures)

pub is_first_version-requires : goal.is_first_version-requires
is_first_version-requires c = header_long _ c.in_ok-check_header.ensures

pub header_size-start-requires : goal.header_size-start-requires
header_size-start-requires c = header_long _ c.in_ok-check_header.ensures
