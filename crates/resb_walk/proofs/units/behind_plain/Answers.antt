use Rattle.std.proofs.Common.{arith}
use Rattle.resb_format.specs.Bytes.{units_of}
use Rattle.resb_walk.proofs.Surrogates.{four_plain}
use Rattle.resb_walk.proofs.units.behind_plain.Goals as goal

pub returns : goal.returns
returns c =
    let low = c.max.ensures in
    let high = c.max-2.ensures in
    let all = c.max-3.ensures in
    let plain = c.if-max-ge55296.false in
    let four = c.in_ok-first.ensures in
    four_plain (units_of c.args.bytes.now) c.in_ok-first.field-0-0
    (units_of c.in_ok-first.rest.now) four.1 four.0
    (omega (arith, low, all, plain)) (omega (arith, low, all, plain))
    (omega (arith, high, all, plain)) (omega (arith, high, all, plain))
