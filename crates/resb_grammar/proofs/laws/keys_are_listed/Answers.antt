use Rattle.resb_grammar.proofs.Listed.{listed}
use Rattle.resb_grammar.proofs.laws.keys_are_listed.Goals as goal

pub returns : goal.returns
returns c = listed
