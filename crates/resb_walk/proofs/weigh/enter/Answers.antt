use Rattle.std.proofs.Common.{subst}
use Rattle.resb_format.specs.Parts.{parts_in}
use Rattle.resb_walk.specs.Inner.Weighing.{Looked}
use Rattle.resb_walk.proofs.Weighed.{enters_leaf, enters_collection}
use Rattle.resb_walk.proofs.weigh.enter.Goals as goal

pub returns-in_default-clause-enters : goal.returns-in_default-clause-enters
returns-in_default-clause-enters c ys ts us zs h come waits adds =
    let p = parts_in c.args.scale.now.file in
    let looked = subst (λ o. Looked p ys zs o c.look.new.sums) c.in_default.is
    (c.in_ok-its.ensures.looked ys zs h adds) in
    enters_leaf p ys ts us zs c.args.outer.now.items c.args.inner c.look.new.sums looked come waits

pub returns-clause-enters : goal.returns-clause-enters
returns-clause-enters c ys ts us zs h come waits adds =
    let p = parts_in c.args.scale.now.file in
    let looked = subst (λ o. Looked p ys zs o c.look.new.sums) c.in-Some.is
    (c.in_ok-its.ensures.looked ys zs h adds) in
    enters_collection p ys ts us zs c.args.outer.now.items c.push.new.self.items c.args.inner
    c.in-Some.its c.in_ok-keep.field-0 c.look.new.sums looked come waits c.in_ok-keep.ensures
    c.in_ok-push.ensures.items
