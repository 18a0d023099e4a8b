use Rattle.std.proofs.Common.{◌+◌, ◌<◌, ◌/◌, arith, length, ◌∙◌}
use Rattle.resb_format.specs.Bytes.{units_of}
use Rattle.resb_blocks.proofs.Linked.{steps_apart}
use Rattle.resb_blocks.proofs.breaks.Breaks.are_joined.Goals as goal
use Rattle.std.proofs.lemmas.List.{get_or_default}
use Rattle.std.proofs.lemmas.Bool.{eqb-true, eq-eqb}

pub returns-then-index : goal.returns-then-index
returns-then-index c =
    let us = units_of c.args.self.now.block.now in
    let ns = c.args.self.now.before.items in
    let first = c.args.from / 64 + 1 in
    let last = c.args.end / 64 in
    let whole = c.args.self.now.whole in
    let inside : last < length ns = omega arith in
    let within : first < length ns = omega arith in
    let d = steps_apart us ns c.args.from c.args.end first last c.args.self.now.counted within
    inside (omega arith) (omega arith) (omega arith) in
    let a = c.index.ensures ∙ get_or_default ns first c.index.result.now 0 within in
    let b = c.index-2.ensures ∙ get_or_default ns last c.index-2.result.now 0 inside in (
      λ h. absurd cc,
      λ h. absurd (c.if-index.true (omega (arith, d.1, d.2, a, b, h))),
    )

pub returns : goal.returns
returns c =
    let us = units_of c.args.self.now.block.now in
    let ns = c.args.self.now.before.items in
    let first = c.args.from / 64 + 1 in
    let last = c.args.end / 64 in
    let whole = c.args.self.now.whole in
    let inside : last < length ns = omega arith in
    let within : first < length ns = omega arith in
    let d = steps_apart us ns c.args.from c.args.end first last c.args.self.now.counted within
    inside (omega arith) (omega arith) (omega arith) in
    let a = c.index.ensures ∙ get_or_default ns first c.index.result.now 0 within in
    let b = c.index-2.ensures ∙ get_or_default ns last c.index-2.result.now 0 inside in
    let same = c.if-index.false in
    let f = c.breaks_in-front.ensures.value in
    let g = c.breaks_in-back.ensures.value in (
      λ h. (let z = eqb-true (c.breaks_in-front.result + c.breaks_in-back.result) 0 h in
          omega (arith, d.1, d.2, a, b, same, f, g, z)),
      λ h. eq-eqb (c.breaks_in-front.result + c.breaks_in-back.result) 0
          (omega (arith, d.2, f, g, h)),
    )
