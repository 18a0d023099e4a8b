use Rattle.std.proofs.Common.{ap, map, ◌∙◌}
use Rattle.std.specs.List.{flat_map}
use Rattle.std.proofs.lemmas.Result.{err_from_is_err_and}
use Rattle.resb_draft.specs.Drafts.{tree_at}
use Rattle.resb_layout.specs.KeyBlock.{used}
use Rattle.resb_pool.specs.Plan.{no_memory}
use Rattle.resb_tree.specs.LayingOrder.{own_keys}
use Rattle.resb_pool_maker.proofs.drafts.draft_gift_of.Goals as goal

pub returns-in_err-order-clause-err : goal.returns-in_err-order-clause-err
returns-in_err-order-clause-err c =
    let r = c.from_residual in
    let p = err_from_is_err_and r.result r.ensures.1 in rw (p.1, p.2) no_memory

pub returns-in_err-keys-clause-err : goal.returns-in_err-keys-clause-err
returns-in_err-keys-clause-err c =
    let r = c.from_residual-in_err-keys in
    let p = err_from_is_err_and r.result r.ensures.1 in rw (p.1, p.2) no_memory

pub returns-clause-keys : goal.returns-clause-keys
returns-clause-keys c =
    let d = c.args.root.now in
    c.in_ok-keys.ensures
    ∙ ap (λ ns. used (flat_map own_keys (map (tree_at d) ns)) c.args.list.now)
    c.deref.ensures.value
    ∙ ap (λ ts. used (flat_map own_keys ts) c.args.list.now) c.in_ok-order.ensures.order
