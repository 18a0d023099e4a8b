use Rattle.std.proofs.Common.{Ok, Err, ◌≡◌, refl, subst, sym, ◌∙◌}
use Rattle.std.proofs.lemmas.Result.{err_from_is_err_and}
use Rattle.resb_format.specs.Parts.{parts_in}
use Rattle.resb_read.specs.Roots.{AnswersCountOf}
use Rattle.resb_c.specs.Calls.{CountsFile}
use Rattle.resb_c.specs.Pools.{given}
use Rattle.resb_c.proofs.OpeningLemmas.{is_opened, memory_wanted}
use Rattle.resb_c.proofs.SourceLemmas.{of_source, uncounted}
use Rattle.resb_c.proofs.opening.open_file.Goals as goal

pub returns-in_err-source : goal.returns-in_err-source
returns-in_err-source c =
    let e = err_from_is_err_and c.from_residual.result c.from_residual.ensures.1 in
    rw (e.1, e.2) (uncounted c.args.input.pool.now c.args.input.file.now _
    c.in_err-source.ensures.err)

pub returns-in-Err : goal.returns-in-Err
returns-in-Err c =
    let is = c.in_ok-source.ensures.ok in (
      is.is_given,
      (
        is.lacks_none,
        of_source (λ w. AnswersCountOf w (Err c.in-Err.e)) c.args.input.pool.now
            c.args.input.file.now c.in_ok-source.source is c.in-Err.ensures,
      ),
    )

pub returns-in-Ok-all_ascend : goal.returns-in-Ok-all_ascend
returns-in-Ok-all_ascend c =
    let pool = c.args.input.pool.now in
    let file = c.args.input.file.now in
    let is = c.in_ok-source.ensures.ok in
    let s = c.in_ok-source.source in
    let counted = of_source (λ w. AnswersCountOf w (Ok c.in-Ok.count)) pool file s is
    c.in-Ok.ensures in
    let parts = of_source (λ w. parts_in c.parts-parts.result.file ≡ w.parts) pool file s is
    c.parts-parts.ensures.parts in
    let root = of_source (λ w. c.parts-parts.result.root ≡ w.root) pool file s is
    c.parts-parts.ensures.root in (
      subst (λ n. CountsFile pool file (Ok n)) (sym c.of.ensures.count) (is.is_given, counted),
      is_opened pool file (given pool) (parts_in c.parts-parts.result.file) c.parts-parts.result.root
          c.of.result refl parts root c.of.ensures.parts c.of.ensures.root
          (λ yes. c.in-Ok-all_ascend.ensures.ordered (sym c.of.ensures.ascends ∙ yes)),
    )

pub returns-in-Err-all_ascend : goal.returns-in-Err-all_ascend
returns-in-Err-all_ascend c =
    let is = c.in_ok-source.ensures.ok in
    let counted = of_source (λ w. AnswersCountOf w (Ok c.in-Ok.count)) c.args.input.pool.now
    c.args.input.file.now c.in_ok-source.source is c.in-Ok.ensures in
    memory_wanted c.args.input.pool.now c.args.input.file.now c.in-Ok.count
    c.out_of_memory.result (is.is_given, counted) c.out_of_memory.ensures
