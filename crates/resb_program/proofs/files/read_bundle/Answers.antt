use Rattle.std.proofs.lemmas.Result.{err_from_is_err_and}
use Rattle.resb_program.proofs.files.read_bundle.Goals as goal

pub returns-in_err-check_size-clause-err : goal.returns-in_err-check_size-clause-err
returns-in_err-check_size-clause-err c =
    let r = c.from_residual in
    let e = err_from_is_err_and r.result r.ensures.1 in
    rw (e.1, e.2) c.in_err-check_size.ensures.err
