use Rattle.std.proofs.Common.{rules, ◌≡◌, ◌++◌, sym, ◌∙◌, ap}
use Rattle.std.proofs.lemmas.Result.{on_ok_weaker}
use Rattle.resb_tree.specs.Tree.{table}
use Rattle.resb_tree.specs.View.{tree_of, entries_view}
use Rattle.resb_tree.specs.declared.resource.Resource.{the_lemmas}
use Rattle.resb_tree.specs.LayingOrder.{own_keys}
use Rattle.resb_grammar.specs.BundleText.{first_places}
use Rattle.resb_compile.proofs.keys.list_own.Goals as goal

pub returns-in-Table : goal.returns-in-Table
returns-in-Table c =
    let e : tree_of c.args.resource.now ≡ table (entries_view c.in-Table.table.entries) =
    search (rules, the_lemmas) in
    on_ok_weaker c.list_table.result
    (λ h before k. h before k ∙ ap (λ t. first_places (before ++ own_keys t)) (sym e))
    c.list_table.ensures
