use Rattle.resb_grammar.proofs.MadeOnce.{one_making}
use Rattle.resb_grammar.proofs.laws.one_making.Goals as goal

pub returns : goal.returns
returns c = one_making
