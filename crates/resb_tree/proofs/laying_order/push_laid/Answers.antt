use Rattle.std.proofs.Common.{◌≡◌, ◌∙◌, ◌++◌, [], ◌∷◌, reverse, ap, sym, append-nil, arith}
use Rattle.std.specs.List.{flat_map}
use Rattle.resb_tree.specs.View.{tree_of}
use Rattle.resb_tree.specs.LayingOrder.{laying_order, trees_in}
use Rattle.resb_tree.proofs.LayingOrderLemmas.{trees_in-push, replaced, replaced_counts}
use Rattle.std.proofs.lemmas.List.{nil_from_length}
use Rattle.resb_tree.proofs.laying_order.push_laid.Goals as goal

pub loop-resource-init : goal.loop-resource-init
loop-resource-init c =
    let e = trees_in-push c.new-pending.result.items c.push.new.self.items c.args.root
    c.in_ok-push.ensures.items ∙ ap (λ l. trees_in l ++ tree_of c.args.root.now ∷ [])
    c.new-pending.ensures.items in
    (λ i. flat_map laying_order (e i) ++ reverse (trees_in (c.requires i)))
    ∙ append-nil (laying_order (tree_of c.args.root.now) ++ [])
    ∙ append-nil (laying_order (tree_of c.args.root.now))

pub loop-resource-smaller : goal.loop-resource-smaller
loop-resource-smaller c =
    replaced_counts (trees_in c.pop.new.self.items) (trees_in c.loop-resource.pending.items)
    (trees_in c.push_children.new.pending.items) (tree_of c.in-Some.resource.now)
    (trees_in-push c.pop.new.self.items c.loop-resource.pending.items c.in-Some.resource
    c.in-Some.ensures.items) c.in_ok-push_children.ensures

pub loop-resource-preserved : goal.loop-resource-preserved
loop-resource-preserved c =
    replaced (trees_in c.pop.new.self.items) (trees_in c.loop-resource.pending.items)
    (trees_in c.push_children.new.pending.items) (trees_in c.loop-resource.order.items)
    (trees_in c.push-in-Some.new.self.items) (tree_of c.in-Some.resource.now)
    (laying_order (tree_of c.args.root.now))
    (trees_in-push c.pop.new.self.items c.loop-resource.pending.items c.in-Some.resource
    c.in-Some.ensures.items) c.in_ok-push_children.ensures
    (trees_in-push c.loop-resource.order.items c.push-in-Some.new.self.items c.in-Some.resource
    c.in_ok-push-2.ensures.items) c.loop-resource.invariant

pub returns : goal.returns
returns c =
    let none : c.loop-resource.pending.items ≡ [] =
    nil_from_length c.loop-resource.pending.items (omega (
      arith,
      c.in_default.ensures.cases.0,
      c.loop-resource.pending.ok.0,
    )) in
    ap (λ l. flat_map laying_order (trees_in l) ++ reverse (trees_in c.loop-resource.order.items))
    (sym none) ∙ c.loop-resource.invariant
