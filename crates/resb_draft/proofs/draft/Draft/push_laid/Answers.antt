use Rattle.std.proofs.Common.{map}
use Rattle.resb_tree.specs.LayingOrder.{laying_order}
use Rattle.resb_tree.proofs.LayingOrderLemmas.{replaced, replaced_counts}
use Rattle.resb_draft.specs.Drafts.{draft_tree, tree_at}
use Rattle.resb_draft.proofs.InOrder.{trees_push, whole_push, whole_pop}
use Rattle.resb_draft.proofs.draft.Draft.push_laid.Goals as goal

pub loop-number-smaller : goal.loop-number-smaller
loop-number-smaller c =
    let d = c.args.self.now in
    replaced_counts (map (tree_at d) c.pop.new.self.items)
    (map (tree_at d) c.loop-number.pending.items)
    (map (tree_at d) c.push_children.new.pending.items) (tree_at d c.in-Some.number)
    (trees_push d c.pop.new.self.items c.loop-number.pending.items c.in-Some.number
    c.in-Some.ensures.items) c.in_ok-push_children.ensures.trees

pub loop-number-preserved : goal.loop-number-preserved
loop-number-preserved c =
    let d = c.args.self.now in
    let n = c.in-Some.number in
    let i = c.loop-number.invariant in
    let popped = whole_pop d c.loop-number.pending.items c.pop.new.self.items n
    c.in-Some.ensures.items i.coming in
    record {
      order = replaced (map (tree_at d) c.pop.new.self.items)
          (map (tree_at d) c.loop-number.pending.items)
          (map (tree_at d) c.push_children.new.pending.items)
          (map (tree_at d) c.loop-number.order.items)
          (map (tree_at d) c.push-in-Some.new.self.items) (tree_at d n)
          (laying_order (draft_tree d))
          (trees_push d c.pop.new.self.items c.loop-number.pending.items n
          c.in-Some.ensures.items) c.in_ok-push_children.ensures.trees
          (trees_push d c.loop-number.order.items c.push-in-Some.new.self.items n
          c.in_ok-push-2.ensures.items) i.order;
      coming = c.in_ok-push_children.ensures.whole popped.0;
      whole = whole_push d c.loop-number.order.items c.push-in-Some.new.self.items n
          c.in_ok-push-2.ensures.items i.whole popped.1;
    }
