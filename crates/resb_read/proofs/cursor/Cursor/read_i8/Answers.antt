use Rattle.std.proofs.lemmas.Result.{err_from_is_err_and}
use Rattle.resb_read.proofs.cursor.Cursor.read_i8.Goals as goal

pub returns-in_err-value : goal.returns-in_err-value
returns-in_err-value c =
    let e = err_from_is_err_and c.from_residual.result c.from_residual.ensures.1 in
    let h = c.in_err-value.ensures in
    rw (e.1, e.2) (h.0, (λ n (x, (fits, there)) paid. h.1 n (x, there) paid), h.2)
