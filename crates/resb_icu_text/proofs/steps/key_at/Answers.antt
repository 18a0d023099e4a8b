use Rattle.resb_icu_grammar.proofs.Lexical.{key_string}
use Rattle.resb_icu_text.proofs.StepsLemmas.{unfit_key, key_ahead}
use Rattle.resb_icu_text.proofs.QuotaLemmas.{match_fails}
use Rattle.resb_icu_text.proofs.steps.key_at.Goals as goal

pub returns-in_err-found-clause-reads : goal.returns-in_err-found-clause-reads
returns-in_err-found-clause-reads c =
    let none = c.in_err-found.ensures.reads in
    match_fails _ _ _ c.from_residual.ensures.1
    (λ to k p. none.0 to k (key_string _ _ to k p), none.1)

pub returns-in-Some-clause-reads : goal.returns-in-Some-clause-reads
returns-in-Some-clause-reads c =
    key_ahead _ _ c.in_ok-found.found c.in-Some.key c.in_ok-found.ensures.reads
    c.in-Some.ensures.key

pub returns-in-None-clause-reads : goal.returns-in-None-clause-reads
returns-in-None-clause-reads c =
    unfit_key _ _ _ c.in_ok-found.found _ c.new.ensures c.in_ok-found.ensures.reads
    c.in-None.ensures.key
