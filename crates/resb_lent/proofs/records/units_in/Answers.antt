use Rattle.std.proofs.Common.{arith, ◌∙◌}
use Rattle.std.proofs.lemmas.List.{take_all}
use Rattle.resb_format.specs.Bytes.{units_of}
use Rattle.resb_format.proofs.Spelled.{units_length}
use Rattle.resb_lent.proofs.Standing.{one_more}
use Rattle.resb_lent.proofs.records.units_in.Goals as goal

pub loop-number-preserved : goal.loop-number-preserved
loop-number-preserved c =
    let bytes = c.args.block.now in
    one_more (units_of bytes) c.loop-number.number c.unit_at.result c.loop-number.units.items
    c.push.new.self.items
    (omega (arith, c.loop-number-test.true, units_length bytes)) c.loop-number.invariant
    c.unit_at.ensures c.in_ok-push.ensures.items

pub returns : goal.returns
returns c =
    let us = units_of c.args.block.now in
    c.loop-number.invariant
    ∙ take_all c.loop-number.number us
    (omega (arith, c.loop-number-test.false, units_length c.args.block.now))
