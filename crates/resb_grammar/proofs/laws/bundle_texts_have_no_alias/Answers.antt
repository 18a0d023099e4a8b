use Rattle.resb_grammar.proofs.NoAlias.{bundle_none}
use Rattle.resb_grammar.proofs.laws.bundle_texts_have_no_alias.Goals as goal

pub returns : goal.returns
returns c = bundle_none
