use Rattle.std.proofs.Common.{rules, ◌≡◌, ◌∙◌, ◌++◌, ap, sym, map}
use Rattle.std.proofs.lemmas.Iterator.{YieldsList-from_slice}
use Rattle.std.proofs.lemmas.Iterator.Adapters.{fact_from_extend}
use Rattle.std.proofs.lemmas.Iterator.Consumers.{YieldsList-from_rest}
use Rattle.std.specs.BTreeMap.{values}
use Rattle.std.specs.Slice.Iter.{iter_rest}
use Rattle.resb_tree.specs.Tree.{array, table}
use Rattle.resb_tree.specs.View.{tree_of, items_view, entries_view}
use Rattle.resb_tree.specs.declared.resource.Resource.{the_lemmas}
use Rattle.resb_tree.specs.LayingOrder.{children, trees_in}
use Rattle.resb_tree.proofs.LayingOrderLemmas.{members-trees_of, values_view, trees_in-extend}
use Rattle.resb_tree.proofs.laying_order.push_children.Goals as goal

pub returns-in-Array : goal.returns-in-Array
returns-in-Array c =
    let old = c.args.pending.now.items in
    let e : tree_of c.args.resource.now ≡ array (items_view c.in-Array.items.items) =
    search (rules, the_lemmas) in
    fact_from_extend (λ y. y.now) c.extend.result c.extend.ensures.ran
    (λ it b. YieldsList-from_slice c.in-Array.items.items
    (ap iter_rest b ∙ c.iter.ensures.rest ∙ c.deref.ensures.value))
    (λ xs f h. trees_in-extend old xs c.extend.new.self.items c.in-Array.items.items f h.0
    ∙ ap (λ l. trees_in old ++ l) (sym (members-trees_of (map tree_of c.in-Array.items.items)))
    ∙ ap (λ t. trees_in old ++ children t) (sym e))

pub returns-in-Table : goal.returns-in-Table
returns-in-Table c =
    let old = c.args.pending.now.items in
    let e : tree_of c.args.resource.now ≡ table (entries_view c.in-Table.table.entries) =
    search (rules, the_lemmas) in
    fact_from_extend (λ y. y.now) c.extend-in-Table.result c.extend-in-Table.ensures.ran
    (λ it b. YieldsList-from_rest (values c.in-Table.table)
    (b ∙ c.values.ensures.rest))
    (λ xs f h.
    trees_in-extend old xs c.extend-in-Table.new.self.items (values c.in-Table.table) f h.0
    ∙ ap (λ l. trees_in old ++ l) (sym (values_view c.in-Table.table.entries))
    ∙ ap (λ t. trees_in old ++ children t) (sym e))
