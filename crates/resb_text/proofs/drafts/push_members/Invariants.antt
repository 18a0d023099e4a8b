use Rattle.std.proofs.Common.{◌≡◌, ◌+◌, ◌≤◌, true, map, drop, length}
use Rattle.resb_tree.specs.Borrowing.{all_true}
use Rattle.resb_draft.specs.Drafts.{Keeps}
use Rattle.resb_text.specs.Inner.Drafts.{piece_item_seen}
use Rattle.resb_text.specs.Inner.Shown.{shown_borrowed}
use Rattle.resb_text.proofs.PieceItems.{ListsNumbers}
use Rattle.resb_text.proofs.drafts.push_members.Given as goal

abbrev pub invariant-loop-item : goal.invariant-loop-item
invariant-loop-item l = record {
  made : all_true (map shown_borrowed (map (piece_item_seen l.fn.draft) l.items)) ≡ true
      → ListsNumbers l.fn.draft l.draft
      (drop (length l.fn.draft.members.items) l.draft.members.items)
      (drop l.item-index l.items) l.items;
  longer : length l.fn.draft.members.items ≤ length l.draft.members.items;
  keeps : Keeps l.fn.draft l.draft;
  count : l.ticks.count ≤ l.fn.ticks.count + l.item-index;
}
