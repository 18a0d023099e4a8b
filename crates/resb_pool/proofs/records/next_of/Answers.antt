use Rattle.std.proofs.Common.{arith}
use Rattle.resb_pool.proofs.FrontBytes.{next_is}
use Rattle.resb_pool.proofs.records.next_of.Goals as goal

pub returns : goal.returns
returns c = omega (
  arith,
  c.from_be_bytes.ensures,
  next_is c.args.bytes.now,
  c.byte_or_0.ensures,
  c.byte_or_0-2.ensures,
  c.byte_or_0-3.ensures,
  c.byte_or_0-4.ensures,
)
