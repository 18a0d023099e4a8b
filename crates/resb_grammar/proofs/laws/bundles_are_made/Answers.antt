use Rattle.resb_grammar.proofs.MadeOnce.{bundle_made}
use Rattle.resb_grammar.proofs.laws.bundles_are_made.Goals as goal

pub returns : goal.returns
returns c = bundle_made
