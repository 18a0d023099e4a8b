use Rattle.std.proofs.lemmas.Result.{err_from_is_err_and}
use Rattle.resb_read.specs.Places.{place_of}
use Rattle.resb_read.proofs.Viewing.{no_bytes_says}
use Rattle.resb_read.proofs.cursor.Cursor.units.Goals as goal

pub returns-in_err-bytes : goal.returns-in_err-bytes
returns-in_err-bytes c =
    let e = err_from_is_err_and c.from_residual.result c.from_residual.ensures.1 in
    let h = c.in_err-bytes.ensures in
    rw (e.1, e.2) (
      h.0,
      (λ n (x, (fits, there)) paid. h.1 n (x, (tt, there)) paid),
      (
        no_bytes_says (place_of c.args.self) c.args.walk.now c.in_err-bytes.field-0.0 h.1 h.2.0,
        h.2.1,
      ),
    )
