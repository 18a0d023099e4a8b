use Rattle.std.proofs.Common.{ap, ◌∙◌}
use Rattle.resb_draft.specs.Drafts.{texts}
use Rattle.resb_filter.specs.Lines.{Refuses}
use Rattle.resb_filter.specs.View.{rules_view}
use Rattle.resb_filter.proofs.LineLemmas.{refused, handed_on}
use Rattle.resb_filter.proofs.rules.Rules.read.Goals as goal

pub returns-in_err-push_rule-clause-err : goal.returns-in_err-push_rule-clause-err
returns-in_err-push_rule-clause-err c =
    let ls = c.deref-line-items.result.now in
    handed_on (Refuses c.args.text.now) c.in_err-push_rule.field-0.0
    c.from_residual-in_err-push_rule.result c.from_residual-in_err-push_rule.ensures.1
    (refused c.args.text.now ls c.loop-at.at _ (rules_view c.loop-at.rules.items)
    c.in_err-push_rule.field-0.0
    (ap texts c.deref-line-items.ensures.value ∙ c.in_ok-lines.ensures)
    c.loop-at-test.true c.loop-at.invariant c.in_err-push_rule.ensures.err)
