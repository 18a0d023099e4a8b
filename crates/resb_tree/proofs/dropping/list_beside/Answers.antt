use Rattle.std.proofs.Common.{◌∙◌, ap, arith}
use Rattle.resb_tree.proofs.DroppingLemmas.{insert_steps}
use Rattle.resb_tree.specs.View.{tree_of}
use Rattle.resb_tree.proofs.Numbers.{made_new}
use Rattle.resb_tree.proofs.dropping.list_beside.Goals as goal

pub into_items-requires : goal.into_items-requires
into_items-requires c =
    ap tree_of c.replace-made.ensures.value
    ∙ made_new _ _ _ (c.in-Ok.ensures.value ∙ c.requires) c.or_default.ensures.value

pub returns-in-Ok-clause-list : goal.returns-in-Ok-clause-list
returns-in-Ok-clause-list c = grind (arith, insert_steps)

pub returns-in-Ok-clause-table : goal.returns-in-Ok-clause-table
returns-in-Ok-clause-table c = grind (arith, insert_steps)

pub returns-in-Ok-clause-same : goal.returns-in-Ok-clause-same
returns-in-Ok-clause-same c = grind (arith, insert_steps)

pub returns-clause-list : goal.returns-clause-list
returns-clause-list c = grind (arith, insert_steps)

pub returns-clause-table : goal.returns-clause-table
returns-clause-table c = grind (arith, insert_steps)

pub returns-clause-same : goal.returns-clause-same
returns-clause-same c = grind (arith, insert_steps)
