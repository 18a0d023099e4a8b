use Rattle.std.proofs.Common.{map, take}
use Rattle.std.specs.List.{flat_map}
use Rattle.resb_draft.specs.Drafts.{tree_at}
use Rattle.resb_tree.specs.LayingOrder.{own_keys}
use Rattle.resb_write.specs.Inner.Numbered.{NumbersKeys}
use Rattle.resb_write.proofs.drafts.draft_keys.Given as goal

abbrev pub invariant-loop-at : goal.invariant-loop-at
invariant-loop-at l =
    NumbersKeys l.keys (flat_map own_keys (map (tree_at l.draft) (take l.at l.order)))
