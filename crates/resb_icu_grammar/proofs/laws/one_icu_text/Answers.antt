use Rattle.resb_icu_grammar.proofs.Groups.{one_icu_text}
use Rattle.resb_icu_grammar.proofs.laws.one_icu_text.Goals as goal

pub returns : goal.returns
returns c = one_icu_text
