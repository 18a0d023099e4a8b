use Rattle.std.proofs.lemmas.Result.{err_from_is_err_and}
use Rattle.resb_pool_maker.proofs.Faults.{bundle_strings}
use Rattle.resb_pool_maker.proofs.maker.PoolMaker.add_draft.Goals as goal

pub returns-in_err-draft_gift_of-clause-err : goal.returns-in_err-draft_gift_of-clause-err
returns-in_err-draft_gift_of-clause-err c =
    let r = c.from_residual in
    let p = err_from_is_err_and r.result r.ensures.1 in
    rw (p.1, p.2) (bundle_strings _ _ c.in_err-draft_gift_of.ensures.err)
