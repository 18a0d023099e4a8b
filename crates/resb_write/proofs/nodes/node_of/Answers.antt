use Rattle.std.proofs.Common.{rules, ◌≡◌, ◌∙◌, ap, sym, subst}
use Rattle.std.specs.List.Sorted.{IsStrictlySortedBy}
use Rattle.std.specs.Cow.{cow_str_bytes, cow_slice_items}
use Rattle.resb_tree.specs.Tree.{string, alias, array, table, binary, integer, int_vector}
use Rattle.resb_tree.specs.Maps.{text_cmp}
use Rattle.resb_tree.specs.View.{tree_of, items_view, entries_view}
use Rattle.resb_tree.specs.declared.resource.Resource.{the_lemmas}
use Rattle.resb_tree.proofs.LayingOrderLemmas.{items_long}
use Rattle.resb_tree.proofs.MapsLemmas.{entry_keys-entries_view}
use Rattle.resb_write.proofs.KeyViews.{values_long}
use Rattle.resb_write.proofs.nodes.node_of.Goals as goal

pub returns-in-String : goal.returns-in-String
returns-in-String c =
    let e : tree_of c.args.resource.now ≡ string (cow_str_bytes c.in-String.text) =
    search (rules, the_lemmas) in
    e ∙ ap string (sym c.as_str.ensures.value)

pub returns-in-Alias : goal.returns-in-Alias
returns-in-Alias c =
    let e : tree_of c.args.resource.now ≡ alias (cow_str_bytes c.in-Alias.path) =
    search (rules, the_lemmas) in
    e ∙ ap alias (sym c.as_str-in-Alias.ensures.value)

pub returns-in-Array : goal.returns-in-Array
returns-in-Array c =
    let e : tree_of c.args.resource.now ≡ array (items_view c.in-Array.items.items) =
    search (rules, the_lemmas) in
    record {
      members = items_view c.in-Array.items.items;
      is = e;
      many = sym (items_long c.in-Array.items.items)
          ∙ sym (c.len.ensures ∙ c.in-Array.items.ok.0);
    }

pub returns-in-Table : goal.returns-in-Table
returns-in-Table c =
    let es = c.in-Table.table.entries in
    let e : tree_of c.args.resource.now ≡ table (entries_view es) = search (rules, the_lemmas) in
    record {
      entries = entries_view es;
      is = e;
      many = sym (values_long es) ∙ sym c.len-in-Table.ensures.len;
      ascend = subst (IsStrictlySortedBy text_cmp) (sym (entry_keys-entries_view es))
          c.len-in-Table.ensures.ordered;
    }

pub returns-in-Binary : goal.returns-in-Binary
returns-in-Binary c =
    let e : tree_of c.args.resource.now ≡ binary (cow_slice_items c.in-Binary.bytes) =
    search (rules, the_lemmas) in
    e ∙ ap binary (sym c.as_slice.ensures.value)

pub returns-in-Integer : goal.returns-in-Integer
returns-in-Integer c =
    let e : tree_of c.args.resource.now ≡ integer c.in-Integer.number =
    search (rules, the_lemmas) in
    (e ∙ ap integer (sym c.from.ensures.0), c.from.ensures.1)

pub returns-in-IntVector : goal.returns-in-IntVector
returns-in-IntVector c =
    let e : tree_of c.args.resource.now ≡ int_vector c.in-IntVector.numbers.items =
    search (rules, the_lemmas) in
    e ∙ ap int_vector (sym c.deref.ensures.value)
