use Rattle.std.proofs.Common.{◌≡◌, ◌+◌, ◌≤◌, ◌<◌, length, arith, get_or}
use Rattle.resb_format.specs.Bytes.{units_of}
use Rattle.resb_format.proofs.Spelled.{units_length}
use Rattle.resb_blocks.specs.Wide.{width_of}
use Rattle.resb_blocks.proofs.WideLemmas.{width_more}
use Rattle.resb_blocks.proofs.widths.width_between.Goals as goal

pub units-preserved : goal.units-preserved
units-preserved c =
    let us = units_of c.args.block.now in
    let n = c.units.number in
    let inside : c.args.from + n < length us = omega (arith, units_length c.args.block.now) in
    let more = width_more us c.args.from n inside in
    let one : c.width-sum.result ≡ width_of (get_or us (c.args.from + n) 0) =
    rw (← c.unit_at.ensures) c.width-sum.ensures.value in
    let few : c.width-sum.result ≤ 3 = c.width-sum.ensures.few in
    (omega (arith, c.units.invariant.0, more, one), omega (arith, c.units.invariant.1, few))
