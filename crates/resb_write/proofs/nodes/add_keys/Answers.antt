use Rattle.std.proofs.Common.{rules, ◌≡◌, ◌++◌, sym, subst}
use Rattle.std.proofs.lemmas.Result.{on_ok_weaker}
use Rattle.resb_tree.specs.Tree.{table}
use Rattle.resb_tree.specs.View.{tree_of, entries_view}
use Rattle.resb_tree.specs.declared.resource.Resource.{the_lemmas}
use Rattle.resb_tree.specs.LayingOrder.{own_keys}
use Rattle.resb_write.specs.Inner.Numbered.{NumbersKeys}
use Rattle.resb_write.proofs.nodes.add_keys.Goals as goal

pub returns-in-Table : goal.returns-in-Table
returns-in-Table c =
    let e : tree_of c.args.resource.now ≡ table (entries_view c.in-Table.table.entries) =
    search (rules, the_lemmas) in
    on_ok_weaker c.add_table_keys.result (λ h ks k.
    subst (λ t. NumbersKeys c.add_table_keys.new.keys (ks ++ own_keys t)) (sym e) (h ks k))
    c.add_table_keys.ensures
