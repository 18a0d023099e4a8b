-- An iteration adds the keys of the next one.
use Rattle.std.proofs.Common.{◌<◌, length, take, sym, ap, ◌∙◌, arith, subst}
use Rattle.std.specs.List.{flat_map}
use Rattle.resb_tree.specs.View.{tree_of}
use Rattle.resb_tree.specs.LayingOrder.{own_keys, trees_in}
use Rattle.resb_write.specs.Inner.Numbered.{NumbersKeys}
use Rattle.resb_write.proofs.Gathering.{flat-push}
use Rattle.resb_write.proofs.NodesLemmas.{seen-take}
use Rattle.resb_write.proofs.nodes.table_keys.Goals as goal

pub loop-at-init : goal.loop-at-init
loop-at-init c = c.in_ok-keys.ensures

pub loop-at-preserved : goal.loop-at-preserved
loop-at-preserved c =
    let order = c.args.order.now.items in
    let i = c.loop-at.at in
    let d = c.index.result.now in
    let done = flat_map own_keys (trees_in (take i order)) in
    let h : c.loop-at.at < length order =
    omega (arith, c.loop-at-test.true, c.len-at-end.ensures, c.args.order.now.ok.0) in
    subst (NumbersKeys c.add_keys.new.keys)
    (sym (flat-push own_keys (trees_in (take i order)) (tree_of d.now))
    ∙ ap (flat_map own_keys) (sym (seen-take tree_of order i d c.index.ensures h)))
    (c.in_ok-add_keys.ensures done c.loop-at.invariant)
