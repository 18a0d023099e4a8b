use Rattle.std.proofs.lemmas.Result.{err_from_is_err_and}
use Rattle.resb_read.proofs.file.File.read.Goals as goal

pub returns-in_err-value-clause-refused : goal.returns-in_err-value-clause-refused
returns-in_err-value-clause-refused g c =
    let e = err_from_is_err_and c.from_residual.result c.from_residual.ensures.1 in
    rw (e.1, e.2) c.in_err-value.ensures.refused

pub returns-clause-read : goal.returns-clause-read
returns-clause-read g c =
    let h = c.in_ok-value.ensures.read in (_, h.0, h.1)

pub returns-in_err-value-clause-says : goal.returns-in_err-value-clause-says
returns-in_err-value-clause-says g c =
    let e = err_from_is_err_and c.from_residual.result c.from_residual.ensures.1 in
    rw (e.1, e.2) c.in_err-value.ensures.says
