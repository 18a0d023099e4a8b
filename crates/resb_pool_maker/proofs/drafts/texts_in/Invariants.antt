use Rattle.std.proofs.Common.{◌≡◌, map, take}
use Rattle.std.specs.List.{flat_map}
use Rattle.resb_draft.specs.Drafts.{tree_at}
use Rattle.resb_pool.specs.Plan.{nows}
use Rattle.resb_tree.specs.LayingOrder.{text_in}
use Rattle.resb_pool_maker.proofs.drafts.texts_in.Given as goal

abbrev pub invariant-loop-at : goal.invariant-loop-at
invariant-loop-at l =
    nows l.texts.items ≡ flat_map text_in (map (tree_at l.draft) (take l.at l.order))
