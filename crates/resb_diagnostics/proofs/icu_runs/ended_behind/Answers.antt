-- A line that ended stays so, as long as nothing stands in quotes.
use Rattle.std.proofs.Common.{◌∙◌, suc, sym, arith}
use Rattle.resb_diagnostics.specs.Inner.IcuTokens.{IsSilent}
use Rattle.resb_diagnostics.proofs.IcuPassing.{ended_stays, ended_here}
use Rattle.resb_diagnostics.proofs.icu_runs.ended_behind.Goals as goal

pub returns-then-has_ended : goal.returns-then-has_ended
returns-then-has_ended c =
    sym (ended_stays c.args.text.now c.args.from c.args.to c.requires.order c.requires.silence
    (sym c.requires.ended ∙ c.if-has_ended.true))

pub returns-then-is_line_end : goal.returns-then-is_line_end
returns-then-is_line_end c =
    let text = c.args.text.now in
    let at = c.loop-at.at in
    let open_here = (c.requires.silence at c.loop-at.auto.at c.loop-at-test.true).0 in
    let rest : IsSilent text (suc at) c.args.to =
    λ k low high. c.requires.silence k (omega (arith, c.loop-at.auto.at)) high in
    sym (ended_stays text (suc at) c.args.to (omega arith) rest
    (ended_here text at open_here (sym c.is_line_end.ensures ∙ c.if-is_line_end.true)))
