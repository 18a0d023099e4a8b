use Rattle.std.proofs.Common.{◌≡◌, ◌+◌, ◌≤◌, arith}
use Rattle.resb_format.specs.Bytes.{units_of}
use Rattle.resb_blocks.specs.Links.{break_count, break_at}
use Rattle.resb_blocks.proofs.Linked.{no_breaks_yet, breaks_one_more, at_most_one}
use Rattle.resb_blocks.proofs.breaks.breaks_in.Goals as goal

pub units-init : goal.units-init
units-init c = (no_breaks_yet (units_of c.args.block.now) c.args.from, omega arith)

pub units-preserved : goal.units-preserved
units-preserved c =
    let us = units_of c.args.block.now in
    let i = c.args.from in
    let n = c.units.number in
    let found : c.units.found ≡ break_count us i n = c.units.invariant.0 in
    let most : c.units.found ≤ n = c.units.invariant.1 in
    let more = breaks_one_more us i n in
    let one : c.break_between-found.result ≡ break_at us (i + n) =
    rw (← c.unit_at-unit.ensures, ← c.unit_at-next.ensures) c.break_between-found.ensures in
    let few = at_most_one us (i + n) in
    (omega (arith, found, more, one), omega (arith, most, one, few))
