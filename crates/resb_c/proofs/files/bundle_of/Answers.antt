use Rattle.std.proofs.lemmas.Result.{err_from_is_err_and}
use Rattle.resb_c.proofs.SourceLemmas.{unbundled, bundle_had, no_bundle}
use Rattle.resb_c.proofs.files.bundle_of.Goals as goal

pub returns-in_err-source-clause-err : goal.returns-in_err-source-clause-err
returns-in_err-source-clause-err c =
    let e = err_from_is_err_and c.from_residual.result c.from_residual.ensures.1 in
    rw (e.1, e.2) (unbundled c.args.input.pool.now c.args.input.file.now c.args.limit _
    c.in_err-source.ensures.err)

pub returns-in-Ok-clause-ok : goal.returns-in-Ok-clause-ok
returns-in-Ok-clause-ok c =
    bundle_had c.args.input.pool.now c.args.input.file.now c.args.name.now c.args.limit
    c.in_ok-source.source c.in-Ok.bundle c.in_ok-source.ensures.ok c.in-Ok.ensures.ok

pub returns-in-Err-clause-err : goal.returns-in-Err-clause-err
returns-in-Err-clause-err c =
    rw c.fault_in.ensures (no_bundle c.args.input.pool.now c.args.input.file.now c.args.limit
    c.in_ok-source.source c.in-Err.e c.in_ok-source.ensures.ok c.in-Err.ensures.err)
