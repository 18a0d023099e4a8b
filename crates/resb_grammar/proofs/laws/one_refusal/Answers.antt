use Rattle.resb_grammar.proofs.GrammarLaws.{one_stuck}
use Rattle.resb_grammar.proofs.laws.one_refusal.Goals as goal

pub returns : goal.returns
returns c = one_stuck
