use Rattle.std.proofs.Common.{ap, ◌∙◌}
use Rattle.resb_filter.proofs.RuleLemmas.{one_more, none_more}
use Rattle.resb_filter.proofs.remaining.rules_at.Goals as goal
use Rattle.resb_filter.proofs.remaining.rules_at.Goals.{in-Some+in_ok-push, in_default}

pub loop-rule-preserved : goal.loop-rule-preserved
loop-rule-preserved c =
    elim c.match-rule_at.branch [
      | in-Some+in_ok-push w ↦
          one_more c.args.key.now c.args.rules.now c.loop-rule.rule-index _ w.in-Some.left
          c.loop-rule.found.items c.match-rule_at.found.items c.rule_at.result
          c.loop-rule-test.true c.loop-rule.invariant c.rule_at.ensures w.in-Some.is
          (ap (λ v. v.items) w.found-is ∙ w.in_ok-push.ensures.items)
      | in_default w ↦
          none_more c.args.key.now c.args.rules.now c.loop-rule.rule-index _
          c.loop-rule.found.items c.match-rule_at.found.items c.rule_at.result
          c.loop-rule-test.true c.loop-rule.invariant c.rule_at.ensures w.in_default.is
          (ap (λ v. v.items) w.found-is)
    ]
