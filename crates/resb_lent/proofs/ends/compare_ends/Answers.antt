use Rattle.std.proofs.Common.{◌≡◌, ◌-◌, length, sym, ◌∙◌, arith, get_or}
use Rattle.std.proofs.lemmas.Bool.Decides.{nat_tests}
use Rattle.resb_lent.proofs.EndOrder.{differ_here, same_here, exhausted}
use Rattle.resb_lent.proofs.ends.compare_ends.Goals as goal

pub returns-then-mine-other : goal.returns-then-mine-other
returns-then-mine-other c =
    let l = c.args.left.now in
    let r = c.args.right.now in
    let i = c.loop-at.at in
    c.cmp.ensures ∙ sym (c.loop-at.invariant
    ∙ differ_here l r i (omega (arith, c.loop-at-test.true, c.min-shared.ensures))
    (omega (arith, c.loop-at-test.true, c.min-shared.ensures))
    (λ (e : get_or l (length l - 1 - i) 0 ≡ get_or r (length r - 1 - i) 0).
    grind (arith, nat_tests, c.if-mine-other.true)))

pub loop-at-preserved : goal.loop-at-preserved
loop-at-preserved c =
    let l = c.args.left.now in
    let r = c.args.right.now in
    let i = c.loop-at.at in
    let e : get_or l (length l - 1 - i) 0 ≡ get_or r (length r - 1 - i) 0 =
    grind (arith, nat_tests, c.if-mine-other.false) in
    c.loop-at.invariant ∙ same_here l r i (omega (arith, c.loop-at-test.true, c.min-shared.ensures))
    (omega (arith, c.loop-at-test.true, c.min-shared.ensures)) e

pub returns : goal.returns
returns c =
    let l = c.args.left.now in
    let r = c.args.right.now in
    c.cmp-2.ensures ∙ sym (c.loop-at.invariant
    ∙ exhausted l r c.loop-at.at (omega (
      arith,
      c.loop-at-test.false,
      c.loop-at.auto,
      c.min-shared.ensures,
    )))
