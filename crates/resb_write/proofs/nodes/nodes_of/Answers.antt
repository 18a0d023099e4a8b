-- An iteration adds the next node.
use Rattle.std.proofs.Common.{◌+◌, ◌<◌, ◌++◌, ◌∷◌, [], length, take, sym, subst, arith}
use Rattle.resb_tree.specs.View.{tree_of}
use Rattle.resb_tree.specs.LayingOrder.{trees_in}
use Rattle.resb_write.specs.Inner.Nodes.{AreNodes}
use Rattle.resb_write.proofs.NodesLemmas.{nodes_push, seen-take}
use Rattle.resb_write.proofs.nodes.nodes_of.Goals as goal

pub loop-at-init : goal.loop-at-init
loop-at-init c = subst (λ l. AreNodes l []) (sym c.in_ok-nodes.ensures.items) tt

pub loop-at-preserved : goal.loop-at-preserved
loop-at-preserved c =
    let order = c.args.order.now.items in
    let i = c.loop-at.at in
    let d = c.index.result.now in
    let old = c.loop-at.nodes.items in
    let n = c.node_of.result in
    let h : c.loop-at.at < length order =
    omega (arith, c.loop-at-test.true, c.len-at-end.ensures, c.args.order.now.ok.0) in
    subst (λ l. AreNodes l (trees_in (take (i + 1) order))) (sym c.in_ok-push.ensures.items)
    (subst (AreNodes (old ++ n ∷ [])) (sym (seen-take tree_of order i d c.index.ensures h))
    (nodes_push old (trees_in (take i order)) n (tree_of d.now) c.loop-at.invariant
    c.node_of.ensures))
