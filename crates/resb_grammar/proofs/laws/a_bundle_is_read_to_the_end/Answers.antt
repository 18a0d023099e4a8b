use Rattle.resb_grammar.proofs.Complete.{complete}
use Rattle.resb_grammar.proofs.laws.a_bundle_is_read_to_the_end.Goals as goal

pub returns : goal.returns
returns c text name fallback tree keys b = (b.items, complete text name fallback tree keys b)
