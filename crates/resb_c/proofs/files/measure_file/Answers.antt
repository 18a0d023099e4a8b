use Rattle.std.proofs.Common.{Ok, Err}
use Rattle.std.proofs.lemmas.Result.{err_from_is_err_and}
use Rattle.resb_read.specs.Measuring.{AnswersMeasureOf}
use Rattle.resb_c.proofs.SourceLemmas.{of_source, unmeasured}
use Rattle.resb_c.proofs.files.measure_file.Goals as goal

pub returns-in_err-source : goal.returns-in_err-source
returns-in_err-source c =
    let e = err_from_is_err_and c.from_residual.result c.from_residual.ensures.1 in
    rw (e.1, e.2) (unmeasured c.args.input.pool.now c.args.input.file.now _
    c.in_err-source.ensures.err)

pub returns-in-Ok : goal.returns-in-Ok
returns-in-Ok c =
    let is = c.in_ok-source.ensures.ok in (
      is.is_given,
      of_source (λ w. AnswersMeasureOf w (Ok c.in-Ok.measured)) c.args.input.pool.now c.args.input.file.now
          c.in_ok-source.source is c.in-Ok.ensures,
    )

pub returns-in-Err : goal.returns-in-Err
returns-in-Err c =
    let is = c.in_ok-source.ensures.ok in (
      is.is_given,
      (
        is.lacks_none,
        of_source (λ w. AnswersMeasureOf w (Err c.in-Err.e)) c.args.input.pool.now
            c.args.input.file.now c.in_ok-source.source is c.in-Err.ensures,
      ),
    )
