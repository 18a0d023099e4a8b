use Rattle.std.proofs.Common.{arith}
use Rattle.resb_pool.proofs.FrontBytes.{front_is}
use Rattle.resb_pool.proofs.records.front_of.Goals as goal

pub returns-clause-front : goal.returns-clause-front
returns-clause-front c = omega (
  arith,
  c.from_be_bytes.ensures,
  front_is c.args.bytes.now,
  c.byte_or_0.ensures,
  c.byte_or_0-2.ensures,
  c.byte_or_0-3.ensures,
  c.byte_or_0-4.ensures,
  c.byte_or_0-5.ensures,
  c.byte_or_0-6.ensures,
  c.byte_or_0-7.ensures,
  c.byte_or_0-8.ensures,
)

pub returns-clause-bytes : goal.returns-clause-bytes
returns-clause-bytes c = λ i. (c.type_inv.bytes i).fits
