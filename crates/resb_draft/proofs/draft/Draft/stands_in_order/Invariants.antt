use Rattle.std.proofs.Common.{◌≡◌, ◌++◌, true, List, map, reverse, drop}
use Rattle.std.specs.List.{flat_map, sum_by}
use Rattle.resb_tree.specs.Borrowing.{all_true}
use Rattle.resb_tree.specs.Tree.{Tree, tree_count}
use Rattle.resb_tree.specs.LayingOrder.{laying_order, own_keys}
use Rattle.resb_draft.specs.Drafts.{draft_tree, tree_at, is_whole, texts}
use Rattle.resb_draft.specs.Pieces.{are_pieces}
use Rattle.resb_draft.proofs.draft.Draft.stands_in_order.Given as goal

abbrev pub invariant-loop-number : goal.invariant-loop-number
invariant-loop-number l = (passed : List Tree)
    × (flat_map laying_order (map (tree_at l.self) l.pending.items) ++ reverse passed
    ≡ laying_order (draft_tree l.self))
    × (all_true (map (is_whole l.self) l.pending.items) ≡ true)
    × (are_pieces (drop l.left l.self.pieces.items) (reverse passed) ≡ true)
    × (drop l.keys (texts l.self.keys.items) ≡ flat_map own_keys (reverse passed))

abbrev pub decreases-loop-number : goal.decreases-loop-number
decreases-loop-number l = sum_by tree_count (map (tree_at l.self) l.pending.items)
