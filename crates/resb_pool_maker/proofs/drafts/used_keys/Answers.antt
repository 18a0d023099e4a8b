use Rattle.std.proofs.Common.{ap, ◌∙◌, map}
use Rattle.std.specs.List.{flat_map}
use Rattle.std.proofs.lemmas.Result.{IfOk-weaker}
use Rattle.resb_draft.specs.Drafts.{tree_at}
use Rattle.resb_layout.specs.KeyBlock.{used}
use Rattle.resb_tree.specs.LayingOrder.{own_keys}
use Rattle.resb_pool_maker.proofs.Joining.{used_once}
use Rattle.resb_pool_maker.proofs.drafts.used_keys.Goals as goal

pub returns : goal.returns
returns c =
    let us = flat_map own_keys (map (tree_at c.args.draft.now) c.args.order.now) in
    IfOk-weaker c.keys_among.result _ _
    (λ v h. h ∙ ap (λ ks. used ks c.args.list.now) c.in_ok-set.ensures
    ∙ used_once us c.args.list.now) c.keys_among.ensures
