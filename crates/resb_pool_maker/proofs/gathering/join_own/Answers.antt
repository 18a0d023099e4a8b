use Rattle.std.proofs.Common.{rules, ◌≡◌, sym, ◌∙◌, ap, fold}
use Rattle.std.proofs.lemmas.Result.{on_ok_weaker}
use Rattle.resb_pool.specs.Plan.{nows}
use Rattle.resb_tree.specs.Tree.{table}
use Rattle.resb_tree.specs.View.{tree_of, entries_view}
use Rattle.resb_tree.specs.declared.resource.Resource.{the_lemmas}
use Rattle.resb_tree.specs.LayingOrder.{own_keys}
use Rattle.resb_pool_maker.specs.PoolOf.{join_key}
use Rattle.resb_pool_maker.proofs.gathering.join_own.Goals as goal

pub returns-in-Table : goal.returns-in-Table
returns-in-Table c =
    let e : tree_of c.args.resource.now ≡ table (entries_view c.in-Table.table.entries) =
    search (rules, the_lemmas) in
    on_ok_weaker c.join_table.result
    (λ h. h ∙ ap (λ t. fold join_key (nows c.args.set.now.keys) (own_keys t)) (sym e))
    c.join_table.ensures
