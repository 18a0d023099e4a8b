-- The nodes of a bundle's resources stand for the trees of its root.
use Rattle.std.proofs.Common.{ap, sym, subst}
use Rattle.std.specs.List.{flat_map}
use Rattle.std.proofs.lemmas.Result.{err_from_is_err_and, IfOk-weaker, IfErr-weaker}
use Rattle.resb_tree.specs.View.{tree_of}
use Rattle.resb_tree.specs.LayingOrder.{own_keys}
use Rattle.resb_write.specs.FaultOf.{fault_of}
use Rattle.resb_write.specs.Inner.Nodes.{AreNodes}
use Rattle.resb_write.specs.Inner.Numbered.{NumbersKeys}
use Rattle.resb_write.specs.Layouts.{IsFileOver, RefusesOver, pool_of}
use Rattle.resb_write.proofs.Refusals.{no_memory_by}
use Rattle.resb_write.proofs.serializer.write_bundle.Goals as goal

pub returns-in_err-order-clause-err : goal.returns-in_err-order-clause-err
returns-in_err-order-clause-err c =
    let p = err_from_is_err_and c.from_residual.result c.from_residual.ensures.1 in
    rw p.1 (subst (RefusesOver c.args.layout _ c.args.list.now) (sym p.2)
    (no_memory_by (pool_of c.args.layout) _ c.args.list.now))

pub returns-in_err-keys-clause-err : goal.returns-in_err-keys-clause-err
returns-in_err-keys-clause-err c =
    let p = err_from_is_err_and c.from_residual-in_err-keys.result
    c.from_residual-in_err-keys.ensures.1 in
    rw p.1 (subst (RefusesOver c.args.layout _ c.args.list.now) (sym p.2)
    (no_memory_by (pool_of c.args.layout) _ c.args.list.now))

pub returns-in_err-nodes-clause-err : goal.returns-in_err-nodes-clause-err
returns-in_err-nodes-clause-err c =
    let p = err_from_is_err_and c.from_residual-in_err-nodes.result
    c.from_residual-in_err-nodes.ensures.1 in
    rw p.1 (subst (RefusesOver c.args.layout _ c.args.list.now) (sym p.2)
    (no_memory_by (pool_of c.args.layout) _ c.args.list.now))

pub write_nodes-requires : goal.write_nodes-requires
write_nodes-requires c =
    let t = tree_of c.root.result.now in
    let same = c.in_ok-order.ensures in (
      t,
      subst (AreNodes c.in_ok-nodes.nodes.items) same c.in_ok-nodes.ensures,
      subst (NumbersKeys c.in_ok-keys.keys) (ap (flat_map own_keys) same) c.in_ok-keys.ensures,
    )

pub returns-clause-ok : goal.returns-clause-ok
returns-clause-ok c =
    let same = c.in_ok-order.ensures in
    IfOk-weaker c.write_nodes.result _ _ (λ v h. subst (λ t. IsFileOver c.args.layout v.items t
    c.args.bundle.now.is_locale_fallback_enabled c.args.list.now)
    c.root.ensures.tree
    (h (tree_of c.root.result.now)
    (subst (AreNodes c.in_ok-nodes.nodes.items) same c.in_ok-nodes.ensures)
    (subst (NumbersKeys c.in_ok-keys.keys) (ap (flat_map own_keys) same)
    c.in_ok-keys.ensures))) c.write_nodes.ensures.ok

pub returns-clause-err : goal.returns-clause-err
returns-clause-err c =
    let same = c.in_ok-order.ensures in
    IfErr-weaker c.write_nodes.result _ _ (λ e h. subst (λ t.
    RefusesOver c.args.layout t c.args.list.now (fault_of e)) c.root.ensures.tree
    (h (tree_of c.root.result.now)
    (subst (AreNodes c.in_ok-nodes.nodes.items) same c.in_ok-nodes.ensures)
    (subst (NumbersKeys c.in_ok-keys.keys) (ap (flat_map own_keys) same)
    c.in_ok-keys.ensures))) c.write_nodes.ensures.err
