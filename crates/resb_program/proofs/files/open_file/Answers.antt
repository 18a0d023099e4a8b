use Rattle.std.proofs.lemmas.Result.{err_from_is_err_and}
use Rattle.resb_program.proofs.Heads.{unopened}
use Rattle.resb_program.proofs.files.open_file.Goals as goal

pub returns-in_err-head : goal.returns-in_err-head
returns-in_err-head c =
    let e = err_from_is_err_and c.from_residual.result c.from_residual.ensures.1 in
    rw (e.1, e.2) (unopened c.args.pool c.args.file.now _ c.in_err-head.ensures.err)
