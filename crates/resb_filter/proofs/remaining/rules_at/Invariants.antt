use Rattle.std.proofs.Common.{◌≡◌, take}
use Rattle.resb_filter.specs.Filtered.{below}
use Rattle.resb_filter.specs.View.{rules_left}
use Rattle.resb_filter.proofs.remaining.rules_at.Given as goal

abbrev pub invariant-loop-rule : goal.invariant-loop-rule
invariant-loop-rule l =
    rules_left l.found.items ≡ below l.key (rules_left (take l.rule-index l.rules))
