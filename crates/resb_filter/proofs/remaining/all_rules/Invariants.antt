use Rattle.std.proofs.Common.{◌≡◌, take}
use Rattle.resb_filter.specs.View.{rules_left, rules_view}
use Rattle.resb_filter.proofs.remaining.all_rules.Given as goal

abbrev pub invariant-loop-rule : goal.invariant-loop-rule
invariant-loop-rule l = rules_left l.all.items ≡ rules_view (take l.rule-index l.rule-items)
