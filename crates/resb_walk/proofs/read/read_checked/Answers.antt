use Rattle.std.proofs.Common.{inl, inr, ◌≡◌, ◌+◌, subst, arith}
use Rattle.std.proofs.lemmas.Result.{err_from_is_err_and}
use Rattle.resb_format.specs.Denotes.{Reaches, reaches_one}
use Rattle.resb_format.specs.Parts.{parts_in}
use Rattle.resb_walk.proofs.read.read_checked.Goals as goal

pub returns-in_err-pay-clause-answers : goal.returns-in_err-pay-clause-answers
returns-in_err-pay-clause-answers g c =
    let p = err_from_is_err_and c.from_residual-in_err-pay.result
    c.from_residual-in_err-pay.ensures.1 in
    let spent = c.in_err-pay.ensures.0 in
    let old : c.args.walk.now ≡ 0 = c.in_err-pay.ensures.1 in
    let new : c.pay.new.self ≡ 0 = c.in_err-pay.ensures.2 in
    let one : 1 ≡ c.args.walk.now + 1 = omega arith in
    let reach = subst (λ k. Reaches (parts_in c.args.file) c.args.word k) one reaches_one in
    rw (p.1, p.2) (omega arith, inr (inl (spent, reach)))
