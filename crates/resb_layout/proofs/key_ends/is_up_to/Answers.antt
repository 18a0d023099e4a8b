use Rattle.std.proofs.Common.{◌≡◌, ◌-◌, ◌<◌, length, sym, ◌∙◌, arith, get_or}
use Rattle.std.proofs.lemmas.Bool.Decides.{nat_tests}
use Rattle.resb_layout.proofs.ByteOrder.{same_here, same_front}
use Rattle.resb_layout.proofs.UpTo.{decided_here, up_to_all}
use Rattle.resb_layout.proofs.key_ends.is_up_to.Goals as goal

pub returns-then-mine-other : goal.returns-then-mine-other
returns-then-mine-other c =
    let l = c.args.left.now in
    let r = c.args.right.now in
    let i = c.loop-at.at in
    decided_here l r i (omega (arith, c.loop-at-test.true, c.min-shared.ensures))
    (omega (arith, c.loop-at-test.true, c.min-shared.ensures)) c.loop-at.invariant.agree
    (λ (e : get_or l (length l - 1 - i) 0 ≡ get_or r (length r - 1 - i) 0).
    grind (arith, nat_tests, c.if-mine-other.true))

pub loop-at-preserved : goal.loop-at-preserved
loop-at-preserved c =
    let l = c.args.left.now in
    let r = c.args.right.now in
    let i = c.loop-at.at in
    let in_left : i < length l = omega (arith, c.loop-at-test.true, c.min-shared.ensures) in
    let in_right : i < length r = omega (arith, c.loop-at-test.true, c.min-shared.ensures) in
    let e : get_or l (length l - 1 - i) 0 ≡ get_or r (length r - 1 - i) 0 =
    grind (arith, nat_tests, c.if-mine-other.false) in
    record {
      agree = c.loop-at.invariant.agree ∙ same_here l r i in_left in_right e;
      front = same_front l r i in_left in_right c.loop-at.invariant.front e;
    }

pub returns : goal.returns
returns c =
    let l = c.args.left.now in
    let r = c.args.right.now in
    sym (up_to_all l r c.loop-at.at (omega (
      arith,
      c.loop-at-test.false,
      c.loop-at.auto,
      c.min-shared.ensures,
    )) c.loop-at.invariant.agree c.loop-at.invariant.front)
