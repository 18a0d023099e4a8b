use Rattle.resb_icu_grammar.proofs.Listed.{listed}
use Rattle.resb_icu_grammar.proofs.laws.icu_keys_are_listed.Goals as goal

pub returns : goal.returns
returns c = listed
