use Rattle.resb_grammar.specs.Items.{a_table, keys_in}
use Rattle.resb_grammar.proofs.DistinctKeys.{distinct_as}
use Rattle.resb_grammar.proofs.laws.keys_are_distinct.Goals as goal

pub returns : goal.returns
returns c text name fallback tree keys b = distinct_as keys (keys_in a_table b.items) b.lists
