use Rattle.std.proofs.lemmas.Result.{err_from_is_err_and}
use Rattle.resb_pool.specs.Plan.{no_memory}
use Rattle.resb_pool_maker.proofs.gathering.gift_of.Goals as goal

pub returns-in_err-order-clause-err : goal.returns-in_err-order-clause-err
returns-in_err-order-clause-err c =
    let r = c.from_residual in
    let p = err_from_is_err_and r.result r.ensures.1 in rw (p.1, p.2) no_memory

pub returns-in_err-keys-clause-err : goal.returns-in_err-keys-clause-err
returns-in_err-keys-clause-err c =
    let r = c.from_residual-in_err-keys in
    let p = err_from_is_err_and r.result r.ensures.1 in rw (p.1, p.2) no_memory
