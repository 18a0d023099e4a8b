use Rattle.std.proofs.Common.{◌≡◌, ◌++◌, true, map, reverse}
use Rattle.std.specs.List.{flat_map, sum_by}
use Rattle.resb_tree.specs.Borrowing.{all_true}
use Rattle.resb_tree.specs.Tree.{tree_count}
use Rattle.resb_tree.specs.LayingOrder.{laying_order}
use Rattle.resb_draft.specs.Drafts.{draft_tree, tree_at, is_whole}
use Rattle.resb_draft.proofs.draft.Draft.push_laid.Given as goal

abbrev pub invariant-loop-number : goal.invariant-loop-number
invariant-loop-number l = record {
  order : flat_map laying_order (map (tree_at l.self) l.pending.items)
      ++ reverse (map (tree_at l.self) l.order.items) ≡ laying_order (draft_tree l.self);
  coming : all_true (map (is_whole l.self) l.pending.items) ≡ true;
  whole : all_true (map (is_whole l.self) l.order.items) ≡ true;
}

abbrev pub decreases-loop-number : goal.decreases-loop-number
decreases-loop-number l = sum_by tree_count (map (tree_at l.self) l.pending.items)
