use Rattle.resb_grammar.proofs.GrammarLaws.{stuck_none}
use Rattle.resb_grammar.proofs.laws.stuck_is_no_bundle.Goals as goal

pub returns : goal.returns
returns c = stuck_none
