use Rattle.resb_diagnostics.proofs.IcuTokenRuns.{quiet_step}
use Rattle.resb_diagnostics.proofs.icu_steps.comment.Goals as goal

pub returns : goal.returns
returns c =
    quiet_step c.args.text.now c.args.at c.icu_comment_end-end.result c.passed.result
    c.icu_comment_end-end.ensures c.passed.ensures
