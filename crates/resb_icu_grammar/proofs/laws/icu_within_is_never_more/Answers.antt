use Rattle.resb_icu_grammar.proofs.Limited.{icu_never_more}
use Rattle.resb_icu_grammar.proofs.laws.icu_within_is_never_more.Goals as goal

pub returns : goal.returns
returns c = icu_never_more
