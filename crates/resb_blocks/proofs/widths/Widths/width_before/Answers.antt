use Rattle.std.proofs.Common.{◌<◌, ◌/◌, length, arith, ◌∙◌}
use Rattle.resb_format.specs.Bytes.{units_of}
use Rattle.resb_blocks.proofs.WideLemmas.{at_step}
use Rattle.resb_blocks.proofs.widths.Widths.width_before.Goals as goal
use Rattle.std.proofs.lemmas.List.{get_or_default}

pub overflow_add-result : goal.overflow_add-result
overflow_add-result c =
    let us = units_of c.args.self.now.block.now in
    let ns = c.args.self.now.before.items in
    let whole = c.args.self.now.whole in
    let within : c.args.unit / 64 < length ns = omega (arith, whole) in
    let first = c.index-front.ensures
    ∙ get_or_default ns (c.args.unit / 64) c.index-front.result.now 0 within in
    let sum = at_step us ns c.args.unit c.index-front.result.now c.width_between.result
    c.args.self.now.summed within first c.width_between.ensures.value in
    omega (arith, sum.1)

pub returns : goal.returns
returns c =
    let us = units_of c.args.self.now.block.now in
    let ns = c.args.self.now.before.items in
    let whole = c.args.self.now.whole in
    let within : c.args.unit / 64 < length ns = omega (arith, whole) in
    let first = c.index-front.ensures
    ∙ get_or_default ns (c.args.unit / 64) c.index-front.result.now 0 within in
    let sum = at_step us ns c.args.unit c.index-front.result.now c.width_between.result
    c.args.self.now.summed within first c.width_between.ensures.value in
    sum.0
