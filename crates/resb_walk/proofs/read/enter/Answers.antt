use Rattle.std.proofs.Common.{inl, inr, ◌≡◌, ◌+◌, arith}
use Rattle.std.proofs.lemmas.Result.{err_from_is_err_and}
use Rattle.resb_format.specs.Parts.{parts_in}
use Rattle.resb_walk.specs.Inner.Members.{member_of}
use Rattle.resb_walk.proofs.RoundsLemmas.{put_enters}
use Rattle.resb_walk.proofs.read.enter.Goals as goal

pub returns-in_err-item-clause-enters : goal.returns-in_err-item-clause-enters
returns-in_err-item-clause-enters g c = λ w n waits.
    let e = err_from_is_err_and c.from_residual.result c.from_residual.ensures.1 in
    rw (e.1, e.2) c.in_err-item.ensures.reads

pub returns-in-Made-clause-enters : goal.returns-in-Made-clause-enters
returns-in-Made-clause-enters g c = λ w n waits.
    let p = parts_in c.args.file in let m = member_of c.args.member in
    let h = rw c.in-Made.is at c.in_ok-item.ensures.reads in
    put_enters g.M.Make.lists g.M.Make.tables p c.args.waiting m w n c.args.frames.now.items
    c.args.walk.now c.begin.new.walk c.put.result h.3
    (c.put.ensures p w n 1 m h.0 waits h.1 h.2)

pub returns-in_err-push-clause-enters : goal.returns-in_err-push-clause-enters
returns-in_err-push-clause-enters g c = λ w n waits.
    let e = err_from_is_err_and c.from_residual-in_err-push.result
    c.from_residual-in_err-push.ensures.1 in
    let h = rw c.in-Begun.is at c.in_ok-item.ensures.reads in
    let paid : c.begin.new.walk + 1 ≡ c.args.walk.now = h.3 in
    rw e.1 (omega arith, inl e.2)

pub returns-clause-enters : goal.returns-clause-enters
returns-clause-enters g c = λ w n waits.
    let h = rw c.in-Begun.is at c.in_ok-item.ensures.reads in
    (h.3, inr (c.in_ok-push.ensures.items, h.0, h.1, h.2))
