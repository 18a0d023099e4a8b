use Rattle.resb_icu_text.proofs.StringsLemmas.{made_lexeme}
use Rattle.resb_icu_text.proofs.strings.string.Goals as goal

pub returns-in_ok-said-in-Ok-clause-found : goal.returns-in_ok-said-in-Ok-clause-found
returns-in_ok-said-in-Ok-clause-found c =
    made_lexeme _ _ c.in-Ok.found _ c.in-Ok.ensures.reads c.in_ok-said-in-Ok.ensures.says
