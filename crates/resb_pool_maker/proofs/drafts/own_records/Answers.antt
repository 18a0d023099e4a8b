use Rattle.std.proofs.lemmas.Result.{err_from_is_err_and}
use Rattle.resb_pool.specs.Plan.{no_memory}
use Rattle.resb_pool_maker.proofs.drafts.own_records.Goals as goal

pub returns-in_err-texts-clause-err : goal.returns-in_err-texts-clause-err
returns-in_err-texts-clause-err c =
    let r = c.from_residual in
    let p = err_from_is_err_and r.result r.ensures.1 in rw (p.1, p.2) no_memory
