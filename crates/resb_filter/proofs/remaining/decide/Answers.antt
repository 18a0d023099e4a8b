use Rattle.std.proofs.Common.{sym, ◌∙◌}
use Rattle.resb_filter.proofs.RuleLemmas.{decided, says_partly, says_whole, says_out}
use Rattle.resb_filter.proofs.remaining.decide.Goals as goal

pub returns-then-last : goal.returns-then-last
returns-then-last c =
    let r = c.in-Some.last.now in
    sym (decided c.args.rules.now c.in-Some.field-0-1.now r c.in-Some.ensures.cases.0
    ∙ says_whole r.keeps r.pieces.now (sym c.is_empty.ensures ∙ c.if-is_empty.true)
    c.if-last.true)

pub returns-else-last : goal.returns-else-last
returns-else-last c =
    let r = c.in-Some.last.now in
    sym (decided c.args.rules.now c.in-Some.field-0-1.now r c.in-Some.ensures.cases.0
    ∙ says_out r.keeps r.pieces.now (sym c.is_empty.ensures ∙ c.if-is_empty.true)
    c.if-last.false)

pub returns-else-is_empty : goal.returns-else-is_empty
returns-else-is_empty c =
    let r = c.in-Some.last.now in
    sym (decided c.args.rules.now c.in-Some.field-0-1.now r c.in-Some.ensures.cases.0
    ∙ says_partly r.keeps r.pieces.now (sym c.is_empty.ensures ∙ c.if-is_empty.false))
