use Rattle.std.proofs.Common.{◌∙◌, ap, sym, ◌++◌, append-nil}
use Rattle.std.specs.Prelude.{map}
use Rattle.resb_tree.specs.Tree.{table, map_of}
use Rattle.resb_tree.specs.View.{pairs_view}
use Rattle.resb_tree.proofs.AtOnce.{made_view}
use Rattle.resb_tree.proofs.ViewLemmas.{tree_of_table}
use Rattle.resb_text.specs.Inner.Shown.{seen_in_code, shown_pairs, entries_borrowed}
use Rattle.resb_text.proofs.BorrowedLemmas.{borrowed_table, made_borrowed}
use Rattle.resb_text.proofs.trees.table_of_list.Goals as goal

pub returns-clause-made : goal.returns-clause-made
returns-clause-made c = λ h.
    let pairs = c.put_terms.new.entries.items in
    let listed = c.in_ok-put_terms.ensures in
    let empty = c.in_ok-pairs.ensures.items in (
      tree_of_table _ ∙ ap table (made_view pairs c.in_ok-table.table c.in_ok-table.ensures
          ∙ ap map_of (sym (append-nil (pairs_view pairs))) ∙ listed.ok
          ∙ ap (λ ps. map_of (pairs_view ps ++ shown_pairs (map seen_in_code c.args.items.items)))
          empty),
      borrowed_table _ ∙ made_borrowed pairs c.in_ok-table.table c.in_ok-table.ensures
          (listed.borrowed h (ap entries_borrowed empty)),
    )
