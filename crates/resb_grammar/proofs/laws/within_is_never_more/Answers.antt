use Rattle.resb_grammar.proofs.MadeOnce.{never_more}
use Rattle.resb_grammar.proofs.laws.within_is_never_more.Goals as goal

pub returns : goal.returns
returns c = never_more
