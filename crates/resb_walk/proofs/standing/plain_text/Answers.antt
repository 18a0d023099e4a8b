use Rattle.std.proofs.Common.{◌<◌, sym, ◌∙◌, length, arith}
use Rattle.resb_format.specs.Bytes.{units_of}
use Rattle.resb_format.proofs.Spelled.{units_length}
use Rattle.resb_walk.proofs.Plain.{plain_more, plain_ends, plain_form}
use Rattle.resb_walk.proofs.standing.plain_text.Goals as goal

pub units-preserved : goal.units-preserved
units-preserved c =
    plain_more (units_of c.in_ok-from.from.now) c.units.count 0xd800 c.unit_at-found.result
    c.unit_at-found.ensures (omega arith) (omega arith) c.units.invariant

pub returns-then-found-eq0-clause-form : goal.returns-then-found-eq0-clause-form
returns-then-found-eq0-clause-form c =
    plain_form c.in_ok-from.from.now c.in_ok-units.units.now c.units.count
    c.in_ok-units.ensures.value c.in_ok-units.ensures.whole c.units.invariant

pub returns-then-found-eq0-clause-text : goal.returns-then-found-eq0-clause-text
returns-then-found-eq0-clause-text c =
    let from = c.in_ok-from.from.now in
    let inside : c.units.count < length (units_of from) =
    omega (arith, c.min-most.ensures, units_length from) in
    plain_ends c.args.block.now from c.in_ok-units.units.now c.args.unit
    c.units.count c.in_ok-from.ensures.parts.1 (omega arith) inside
    (sym c.unit_at-found.ensures ∙ c.if-found-eq0.true) c.in_ok-units.ensures.value
    c.units.invariant
