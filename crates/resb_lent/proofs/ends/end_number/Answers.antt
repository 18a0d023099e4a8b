use Rattle.std.proofs.Common.{arith, reverse}
use Rattle.resb_lent.proofs.NumberedEnds.{number_is}
use Rattle.resb_lent.proofs.ends.end_number.Goals as goal

pub returns-clause-number : goal.returns-clause-number
returns-clause-number c = omega (
  arith,
  c.from_be_bytes.ensures,
  number_is (reverse c.args.bytes.now),
  c.byte_or_255.ensures,
  c.byte_or_255-2.ensures,
  c.byte_or_255-3.ensures,
  c.byte_or_255-4.ensures,
  c.byte_or_255-5.ensures,
  c.byte_or_255-6.ensures,
  c.byte_or_255-7.ensures,
  c.byte_or_255-8.ensures,
)

pub returns-clause-bytes : goal.returns-clause-bytes
returns-clause-bytes c = λ i. (c.type_inv.bytes i).fits
