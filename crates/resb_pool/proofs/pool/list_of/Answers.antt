use Rattle.std.proofs.lemmas.Result.{err_from_is_err_and}
use Rattle.resb_pool.specs.Plan.{no_memory}
use Rattle.resb_pool.proofs.pool.list_of.Goals as goal

pub returns-in_err-sample-clause-err : goal.returns-in_err-sample-clause-err
returns-in_err-sample-clause-err c =
    let r = c.from_residual-in_err-sample in
    let p = err_from_is_err_and r.result r.ensures.1 in rw (p.1, p.2) no_memory

pub returns-in_err-firsts-clause-err : goal.returns-in_err-firsts-clause-err
returns-in_err-firsts-clause-err c =
    let r = c.from_residual-in_err-firsts in
    let p = err_from_is_err_and r.result r.ensures.1 in rw (p.1, p.2) no_memory

pub returns-in_err-as_list-clause-err : goal.returns-in_err-as_list-clause-err
returns-in_err-as_list-clause-err c =
    let r = c.from_residual-in_err-as_list in
    let p = err_from_is_err_and r.result r.ensures.1 in rw (p.1, p.2) no_memory
