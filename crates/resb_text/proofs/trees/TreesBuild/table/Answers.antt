use Rattle.std.proofs.Common.{◌∙◌, ap, map, refl}
use Rattle.std.proofs.lemmas.Result.{IfOk-weaker}
use Rattle.resb_tree.specs.Borrowing.{all_true}
use Rattle.resb_tree.specs.Tree.{table, put_all, map_of}
use Rattle.resb_tree.specs.View.{entries_view}
use Rattle.resb_tree.proofs.ViewLemmas.{tree_of_table}
use Rattle.resb_text.specs.Inner.Shown.{seen_in_code, shown_pairs, shown_borrowed, entries_borrowed}
use Rattle.resb_text.proofs.BorrowedLemmas.{borrowed_table}
use Rattle.resb_text.proofs.trees.TreesBuild.table.Goals as goal

pub returns-then-len-gt-FEW_ENTRIES-clause-made : goal.returns-then-len-gt-FEW_ENTRIES-clause-made
returns-then-len-gt-FEW_ENTRIES-clause-made c = λ h.
    let all = ap (λ v. map seen_in_code v.items) c.replace-items.ensures.value in
    IfOk-weaker c.table_of_list.result _ _
    (λ r made. (
      (made.0 ∙ ap (λ xs. table (map_of (shown_pairs xs))) all, made.1),
      λ x k. (refl, k),
    ))
    (c.table_of_list.ensures.made (ap (λ xs. all_true (map shown_borrowed xs)) all ∙ h))

pub returns-clause-made : goal.returns-clause-made
returns-clause-made c = λ h.
    let put = c.in_ok-put_terms.ensures in
    let all = ap (λ v. map seen_in_code v.items) c.replace-items.ensures.value in
    let empty = c.new-table.ensures.empty in (
      (
        tree_of_table _
            ∙ ap table (put.ok
            ∙ (λ i. put_all (entries_view (empty i)) (shown_pairs (all i)))),
        borrowed_table _
            ∙ put.borrowed (ap (λ xs. all_true (map shown_borrowed xs)) all ∙ h)
            (ap entries_borrowed empty),
      ),
      λ x k. (refl, k),
    )
