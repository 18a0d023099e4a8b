use Rattle.resb_text.proofs.Outcomes.{match_same}
use Rattle.resb_text.proofs.HeaderReading.{no_open, name_made}
use Rattle.resb_text.proofs.reader.read_header.Goals as goal

pub returns-in_err-brace-clause-reads : goal.returns-in_err-brace-clause-reads
returns-in_err-brace-clause-reads c =
    match_same _ _ _ _ c.from_residual-in_err-brace.ensures.1
    (λ w. c.in_err-brace.ensures.reads w _ _ (name_made _ w _ _ c.in_ok-place.ensures.reads))

pub returns-in_err-first-clause-reads : goal.returns-in_err-first-clause-reads
returns-in_err-first-clause-reads c =
    let typing = c.in_ok-brace.ensures.reads in
    let unopened = c.in_err-first.ensures.reads in
    match_same _ _ _ _ c.from_residual-in_err-first.ensures.1 (λ w. rw unopened.is
    (no_open _ _ _ _ _ _ (name_made _ w _ _ c.in_ok-place.ensures.reads) typing.0 typing.1
    unopened.none))
