use Rattle.std.proofs.Common.{inl, inr, ◌≡◌, ◌+◌, subst, ap, arith, Ok, Some}
use Rattle.std.proofs.lemmas.Result.{err_from_is_err_and}
use Rattle.resb_format.specs.Denotes.{ReachesMember}
use Rattle.resb_format.specs.Parts.{parts_in}
use Rattle.resb_walk.specs.Inner.Counting.{LooksAt}
use Rattle.resb_walk.specs.Inner.Members.{member_of}
use Rattle.resb_walk.proofs.Lift.{reaches_any}
use Rattle.resb_walk.proofs.Paths.{looked_meets, rest_begins}
use Rattle.resb_walk.proofs.Starts.{leaf_denotes}
use Rattle.resb_walk.proofs.count.begin.Goals as goal

pub returns-in_err-pay-clause-enters : goal.returns-in_err-pay-clause-enters
returns-in_err-pay-clause-enters c =
    let p = err_from_is_err_and c.from_residual.result c.from_residual.ensures.1 in
    let spent = c.in_err-pay.ensures.0 in
    let old : c.args.walk.now ≡ 0 = c.in_err-pay.ensures.1 in
    let new : c.pay.new.self ≡ 0 = c.in_err-pay.ensures.2 in
    let one : 1 ≡ c.args.walk.now + 1 = omega arith in
    let parts = parts_in c.args.checker.now.file in
    let reach = subst (λ k. ReachesMember parts (member_of c.args.member) k) one
    (reaches_any parts (member_of c.args.member)) in
    rw (p.1, p.2) (omega arith, inr (inl (spent, reach)))

pub returns-in_err-rest-clause-meets : goal.returns-in_err-rest-clause-meets
returns-in_err-rest-clause-meets c =
    let p = err_from_is_err_and c.from_residual-in_err-rest.result
    c.from_residual-in_err-rest.ensures.1 in
    rw (p.1, p.2) (looked_meets (parts_in c.args.checker.now.file) (member_of c.args.member)
    c.in_err-rest.field-0.0 c.in_err-rest.ensures.looks)

pub returns-in_default-clause-enters : goal.returns-in_default-clause-enters
returns-in_default-clause-enters c =
    let h = rw c.in_default.is at c.in_ok-rest.ensures.looks in (
      h.0,
      leaf_denotes (parts_in c.args.checker.now.file) (member_of c.args.member) h.0 h.1,
      c.in_ok-pay.ensures,
    )

pub returns-clause-enters : goal.returns-clause-enters
returns-clause-enters c =
    let p = parts_in c.args.checker.now.file in
    let h = subst (λ o. LooksAt p (member_of c.args.member) (Ok o)) c.in-Some.is
    c.in_ok-rest.ensures.looks in
    let at = subst (λ m. LooksAt p (member_of m) (Ok (Some c.in-Some.rest))) c.in-Word.is h in (
      ap member_of c.in-Word.is,
      rest_begins p c.in-Some.rest c.in-Word.word at,
      c.in_ok-pay.ensures,
    )
