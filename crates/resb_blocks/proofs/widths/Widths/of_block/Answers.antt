use Rattle.std.proofs.Common.{◌≡◌, ◌+◌, ◌*◌, arith, length, length-append, [], ◌∷◌, take}
use Rattle.resb_format.specs.Bytes.{units_of}
use Rattle.resb_blocks.specs.Wide.{text_width}
use Rattle.resb_blocks.proofs.WideLemmas.{front_behind, summed_push}
use Rattle.resb_blocks.proofs.widths.Widths.of_block.Goals as goal

pub steps-preserved : goal.steps-preserved
steps-preserved c =
    let us = units_of c.args.block.now in
    let i = c.steps.invariant in
    let n = c.steps.number in
    let ns = c.steps.before.items in
    let total = c.steps.total + c.width_between-total.result in
    let few = c.width_between-total.ensures.few in
    let sum = front_behind us n 64 in
    let here : total ≡ text_width (take (n + 64) us) =
    omega (arith, i.2, c.width_between-total.ensures.value, sum) in
    let place : n + 64 ≡ 64 * length ns = i.0 in
    let there = rw place at here in
    rw c.in_ok-push-2.ensures.items (
      omega (arith, place, length-append ns (total ∷ [])),
      omega arith,
      here,
      omega (arith, i.3, few),
      summed_push us ns total i.4 there,
    )
