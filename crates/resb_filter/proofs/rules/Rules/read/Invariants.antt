use Rattle.std.proofs.Common.{take}
use Rattle.resb_draft.specs.Drafts.{texts}
use Rattle.resb_filter.specs.View.{rules_view}
use Rattle.resb_filter.proofs.LineLemmas.{ReadSoFar}
use Rattle.resb_filter.proofs.rules.Rules.read.Given as goal

abbrev pub invariant-loop-at : goal.invariant-loop-at
invariant-loop-at l = ReadSoFar (texts (take l.at l.line-items)) (rules_view l.rules.items)
