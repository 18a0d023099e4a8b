use Rattle.resb_grammar.proofs.DistinctKeys.{distinct_as}
use Rattle.resb_icu_grammar.proofs.laws.icu_keys_are_distinct.Goals as goal

pub returns : goal.returns
returns c text name fallback tree keys t = distinct_as keys t.places t.lists
