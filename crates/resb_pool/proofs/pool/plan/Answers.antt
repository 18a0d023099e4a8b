-- The strings are told apart, and then planned.
use Rattle.std.proofs.lemmas.Result.{err_from_is_err_and, IfOk-weaker, IfErr-weaker}
use Rattle.resb_pool.specs.Plan.{nows}
use Rattle.resb_pool.proofs.pool.plan.Goals as goal

pub returns-in_err-texts-clause-err : goal.returns-in_err-texts-clause-err
returns-in_err-texts-clause-err c =
    let p = err_from_is_err_and c.from_residual.result c.from_residual.ensures.1 in
    rw (p.1, p.2) c.in_err-texts.ensures.err

pub plan_texts-requires : goal.plan_texts-requires
plan_texts-requires c = (nows c.args.strings.now, c.in_ok-texts.ensures.ok)

pub returns-clause-ok : goal.returns-clause-ok
returns-clause-ok c =
    IfOk-weaker c.plan_texts.result _ _
    (λ p h. h (nows c.args.strings.now) c.in_ok-texts.ensures.ok) c.plan_texts.ensures.ok

pub returns-clause-turns : goal.returns-clause-turns
returns-clause-turns c =
    IfOk-weaker c.plan_texts.result _ _
    (λ p h. h (nows c.args.strings.now) c.in_ok-texts.ensures.ok) c.plan_texts.ensures.turns

pub returns-clause-err : goal.returns-clause-err
returns-clause-err c =
    IfErr-weaker c.plan_texts.result _ _ (λ e h. h (nows c.args.strings.now))
    c.plan_texts.ensures.err
