use Rattle.std.proofs.Common.{inl, inr, ◌≡◌, ◌+◌, subst, arith}
use Rattle.std.proofs.lemmas.Result.{err_from_is_err_and}
use Rattle.resb_format.specs.Content.{unit}
use Rattle.resb_format.specs.Denotes.{ReachesMember, den_unit}
use Rattle.resb_tree.specs.Tree.{string}
use Rattle.resb_format.specs.Parts.{parts_in}
use Rattle.resb_walk.specs.Inner.Members.{text_of_bytes}
use Rattle.resb_walk.specs.Meets.{meets_text}
use Rattle.resb_walk.proofs.Lift.{reaches_any}
use Rattle.resb_walk.proofs.count.count_string_at.Goals as goal

pub returns-in_err-pay-clause-answers : goal.returns-in_err-pay-clause-answers
returns-in_err-pay-clause-answers c =
    let p = err_from_is_err_and c.from_residual.result c.from_residual.ensures.1 in
    let spent = c.in_err-pay.ensures.0 in
    let old : c.args.walk.now ≡ 0 = c.in_err-pay.ensures.1 in
    let new : c.pay.new.self ≡ 0 = c.in_err-pay.ensures.2 in
    let one : 1 ≡ c.args.walk.now + 1 = omega arith in
    let reach = subst (λ k. ReachesMember (parts_in c.args.file) (unit c.args.unit) k) one
    (reaches_any (parts_in c.args.file) (unit c.args.unit)) in
    rw (p.1, p.2) (omega arith, inr (inl (spent, reach)))

pub returns-in_err-text_at-clause-meets : goal.returns-in_err-text_at-clause-meets
returns-in_err-text_at-clause-meets c =
    let p = err_from_is_err_and c.from_residual-in_err-text_at.result
    c.from_residual-in_err-text_at.ensures.1 in
    let h = c.in_err-text_at.ensures in
    rw (p.1, p.2) (λ _. rw (h.says, c.index_of.ensures)
    (meets_text (rw c.index_of.ensures at h.stands.0)))

pub returns-clause-answers : goal.returns-clause-answers
returns-clause-answers c =
    let t = rw c.index_of.ensures at c.in_ok-text_at.ensures.stands in
    (string (text_of_bytes c.in_ok-text_at.field-0.now), 1, den_unit t, tt, c.in_ok-pay.ensures)
