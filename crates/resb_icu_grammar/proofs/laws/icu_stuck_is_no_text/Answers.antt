use Rattle.resb_icu_grammar.proofs.Refused.{stuck_is_no_text}
use Rattle.resb_icu_grammar.proofs.laws.icu_stuck_is_no_text.Goals as goal

pub returns : goal.returns
returns c = stuck_is_no_text
