use Rattle.std.proofs.Common.{ap, ◌∙◌}
use Rattle.std.specs.List.{flat_map}
use Rattle.std.proofs.lemmas.Result.{IfOk-weaker}
use Rattle.resb_layout.specs.KeyBlock.{used}
use Rattle.resb_tree.specs.LayingOrder.{own_keys, trees_in}
use Rattle.resb_pool_maker.proofs.Joining.{used_once}
use Rattle.resb_pool_maker.proofs.gathering.used_keys.Goals as goal

pub returns : goal.returns
returns c =
    let us = flat_map own_keys (trees_in c.args.order.now.items) in
    IfOk-weaker c.keys_among.result _ _
    (λ v h. h ∙ ap (λ ks. used ks c.args.list.now) c.in_ok-set.ensures
    ∙ used_once us c.args.list.now) c.keys_among.ensures
