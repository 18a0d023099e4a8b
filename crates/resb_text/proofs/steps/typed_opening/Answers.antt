use Rattle.resb_text.proofs.Outcomes.{match_same}
use Rattle.resb_text.proofs.TypedGroups.{no_type, no_type_brace}
use Rattle.resb_text.proofs.steps.typed_opening.Goals as goal

pub returns-in_default-clause-reads : goal.returns-in_default-clause-reads
returns-in_default-clause-reads c =
    rw c.new.ensures (no_type _ _ c.requires.byte c.in_default.ensures.found)

pub returns-in_err-first-clause-reads : goal.returns-in_err-first-clause-reads
returns-in_err-first-clause-reads c =
    let unopened = c.in_err-first.ensures.reads in
    match_same _ _ _ _ c.from_residual.ensures.1 (rw unopened.is (no_type_brace _ _ _ _ _
    c.in-Some.ensures.found c.skip-brace.ensures.skip unopened.none))
