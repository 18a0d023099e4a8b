use Rattle.resb_icu_grammar.proofs.OneRefusal.{stuck_in_one_way}
use Rattle.resb_icu_grammar.proofs.laws.one_icu_refusal.Goals as goal

pub returns : goal.returns
returns c = stuck_in_one_way
