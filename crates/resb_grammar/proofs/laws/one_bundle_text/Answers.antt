use Rattle.resb_grammar.proofs.GrammarLaws.{one_bundle}
use Rattle.resb_grammar.proofs.laws.one_bundle_text.Goals as goal

pub returns : goal.returns
returns c = one_bundle
