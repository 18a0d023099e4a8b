use Rattle.std.proofs.lemmas.Result.{err_from_is_err_and}
use Rattle.resb_format.specs.Bytes.{units_of}
use Rattle.resb_walk.proofs.Placed.{text_none, string_fails}
use Rattle.resb_walk.proofs.standing.any_text.Goals as goal

pub returns-in_err-text-clause-stands : goal.returns-in_err-text-clause-stands
returns-in_err-text-clause-stands c =
    let block = units_of c.args.units.now in
    let p = err_from_is_err_and c.from_residual.result c.from_residual.ensures.1 in
    rw (p.1, p.2) (
      text_none block c.args.unit c.in_err-text.ensures.0,
      string_fails block c.args.unit _ c.in_err-text.ensures.1,
    )
