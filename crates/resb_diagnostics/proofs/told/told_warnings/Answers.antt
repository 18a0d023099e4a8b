use Rattle.std.proofs.Common.{◌++◌, sym, ◌∙◌, ap, length}
use Rattle.std.specs.String.{string_bytes}
use Rattle.resb_diagnostics.specs.Told as told
use Rattle.resb_diagnostics.proofs.ToldLemmas.{is_line, over}
use Rattle.resb_diagnostics.proofs.told.told_warnings.Goals as goal

pub returns-then-is_over : goal.returns-then-is_over
returns-then-is_over c =
    let before = string_bytes c.loop-warning.lines in
    over c.args.text.now c.args.found.now c.loop-warning.warning-index _ c.loop-warning-test.true
    before (string_bytes c.push_line.new.lines) c.loop-warning.invariant.1
    (c.in_ok-push_line.ensures
    ∙ ap (λ l. before ++ l) (is_line _ _ _ _ _ c.loop-warning.invariant.0 c.find.ensures.line
    c.find.ensures.column))
    c.args.limit
    (ap (λ l. told.is_over c.args.limit (length l)) (sym c.as_bytes-in-loop-warning.ensures.value)
    ∙ sym c.is_over.ensures ∙ c.if-is_over.true)
