use Rattle.std.proofs.Common.{take, sym, subst}
use Rattle.resb_pool.specs.Plan.{nows}
use Rattle.resb_pool.specs.Inner.ToldApart.{AreTold}
use Rattle.resb_pool.proofs.TextLoops.{blank, nows-take}
use Rattle.resb_pool.proofs.holders.tell.Goals as goal

pub loop-text-preserved : goal.loop-text-preserved
loop-text-preserved c =
    let xs = c.args.strings.now in
    let i = c.loop-text.text-index in
    let told = c.add_string.new.told in
    subst (λ d. AreTold d (nows told.distinct.keys) told.order.items)
    (sym (nows-take xs i blank c.loop-text-test.true))
    (c.in_ok-add_string.ensures (nows (take i xs)) c.loop-text.invariant)
