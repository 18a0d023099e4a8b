use Rattle.std.proofs.Common.{inl, inr, ◌≡◌, ◌+◌, subst, arith}
use Rattle.std.proofs.lemmas.Result.{err_from_is_err_and}
use Rattle.resb_format.specs.Denotes.{ReachesMember}
use Rattle.resb_format.specs.Parts.{parts_in}
use Rattle.resb_walk.specs.Inner.Members.{member_of}
use Rattle.resb_walk.proofs.Lift.{reaches_any}
use Rattle.resb_walk.proofs.Starts.{started, member_meets}
use Rattle.resb_walk.proofs.read.begin.Goals as goal

pub returns-in_err-pay-clause-reads : goal.returns-in_err-pay-clause-reads
returns-in_err-pay-clause-reads g c =
    let p = err_from_is_err_and c.from_residual.result c.from_residual.ensures.1 in
    let spent = c.in_err-pay.ensures.0 in
    let old : c.args.walk.now ≡ 0 = c.in_err-pay.ensures.1 in
    let new : c.pay.new.self ≡ 0 = c.in_err-pay.ensures.2 in
    let one : 1 ≡ c.args.walk.now + 1 = omega arith in
    let reach = subst (λ k. ReachesMember (parts_in c.args.file) (member_of c.args.member) k) one
    (reaches_any (parts_in c.args.file) (member_of c.args.member)) in
    rw (p.1, p.2) (omega arith, inr (inl (spent, reach)))

pub returns-in_err-standing-clause-meets : goal.returns-in_err-standing-clause-meets
returns-in_err-standing-clause-meets g c =
    let p = err_from_is_err_and c.from_residual-in_err-standing.result
    c.from_residual-in_err-standing.ensures.1 in
    let h = c.in_err-standing.ensures in
    rw (p.1, p.2) (λ _. rw h.says (member_meets (parts_in c.args.file) (member_of c.args.member)
    h.stands.0))

pub returns-clause-reads : goal.returns-clause-reads
returns-clause-reads g c =
    started g.M.Make.is g.M.Make.lists g.M.Make.tables (parts_in c.args.file)
    (member_of c.args.member) c.in_ok-standing.standing c.in_ok-start.field-0 c.args.walk.now
    c.pay.new.self c.in_ok-standing.ensures.stands c.in_ok-start.ensures c.in_ok-pay.ensures
