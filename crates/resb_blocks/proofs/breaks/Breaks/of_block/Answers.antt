use Rattle.std.proofs.Common.{◌≡◌, ◌+◌, ◌*◌, arith, length, length-append, [], ◌∷◌}
use Rattle.resb_format.specs.Bytes.{units_of}
use Rattle.resb_blocks.specs.Links.{break_count}
use Rattle.resb_blocks.proofs.Linked.{no_breaks_yet, counted_none, counted_push, breaks_add}
use Rattle.resb_blocks.proofs.breaks.Breaks.of_block.Goals as goal

pub steps-init : goal.steps-init
steps-init c =
    let us = units_of c.args.block.now in
    rw c.in_ok-before.ensures.items
    (omega arith, omega arith, λ _. no_breaks_yet us 0, counted_none us)

pub steps-preserved : goal.steps-preserved
steps-preserved c =
    let us = units_of c.args.block.now in
    let i = c.steps.invariant in
    let n = c.steps.number in
    let ns = c.steps.before.items in
    let total : c.steps.total ≡ break_count us 0 n = i.2 c.steps-test.true in
    let here : c.steps.total ≡ break_count us 0 (64 * length ns) = rw i.0 at total in
    let few = c.breaks_in-total.ensures.few in
    let most = c.min.ensures in
    rw c.in_ok-push.ensures.items (
      omega (arith, i.0, length-append ns (c.steps.total ∷ [])),
      omega (arith, i.1, few, most),
      λ l. (let whole : c.min.result ≡ 64 = omega (arith, most, l) in
          let more : c.breaks_in-total.result ≡ break_count us n 64 =
          rw whole at c.breaks_in-total.ensures.value in
          let z : 0 + n ≡ n = omega arith in
          let both = rw z at (breaks_add us 0 n 64) in
          omega (arith, total, more, both)),
      counted_push us ns c.steps.total i.3 here,
    )
