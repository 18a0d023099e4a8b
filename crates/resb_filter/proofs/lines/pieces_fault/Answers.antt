use Rattle.std.proofs.Common.{sym, ◌∙◌}
use Rattle.resb_draft.specs.Drafts.{texts}
use Rattle.resb_filter.proofs.LineLemmas.{any_texts, empty_say, rule_say}
use Rattle.resb_filter.proofs.lines.pieces_fault.Goals as goal

pub returns-then-one_is_empty : goal.returns-then-one_is_empty
returns-then-one_is_empty c = λ keeps.
    let ps = c.args.pieces.now in
    empty_say (texts ps) keeps
    (sym (any_texts ps) ∙ sym c.one_is_empty.ensures ∙ c.if-one_is_empty.true)

pub returns-else-one_is_empty : goal.returns-else-one_is_empty
returns-else-one_is_empty c = λ keeps.
    let ps = c.args.pieces.now in
    rule_say (texts ps) keeps
    (sym (any_texts ps) ∙ sym c.one_is_empty.ensures ∙ c.if-one_is_empty.false)
