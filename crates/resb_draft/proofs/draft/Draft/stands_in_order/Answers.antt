-- What is left comes before what was passed, whose pieces and keys stand at the end of all.
use Rattle.std.proofs.Common.{◌++◌, ◌∷◌, [], arith, map, refl}
use Rattle.resb_tree.proofs.LayingOrderLemmas.{replaced, replaced_counts}
use Rattle.resb_tree.specs.LayingOrder.{laying_order}
use Rattle.resb_draft.specs.Drafts.{draft_tree, tree_at}
use Rattle.resb_draft.proofs.InOrder.{trees_push, whole_pop, piece_before, keys_before}
use Rattle.resb_draft.proofs.draft.Draft.stands_in_order.Goals as goal

pub loop-number-smaller : goal.loop-number-smaller
loop-number-smaller c =
    let d = c.args.self.now in
    replaced_counts (map (tree_at d) c.pop.new.self.items)
    (map (tree_at d) c.loop-number.pending.items)
    (map (tree_at d) c.push_children.new.pending.items) (tree_at d c.in-Some.number)
    (trees_push d c.pop.new.self.items c.loop-number.pending.items c.in-Some.number
    c.in-Some.ensures.items) c.in_ok-push_children.ensures.trees

pub loop-number-preserved : goal.loop-number-preserved
loop-number-preserved c =
    let d = c.args.self.now in
    let n = c.in-Some.number in
    let t = tree_at d n in
    let i = c.loop-number.invariant in
    let popped = whole_pop d c.loop-number.pending.items c.pop.new.self.items n
    c.in-Some.ensures.items i.2 in (
      i.0 ++ t ∷ [],
      replaced (map (tree_at d) c.pop.new.self.items)
          (map (tree_at d) c.loop-number.pending.items)
          (map (tree_at d) c.push_children.new.pending.items) i.0 (i.0 ++ t ∷ []) t
          (laying_order (draft_tree d))
          (trees_push d c.pop.new.self.items c.loop-number.pending.items n
          c.in-Some.ensures.items) c.in_ok-push_children.ensures.trees refl i.1,
      c.in_ok-push_children.ensures.whole popped.0,
      piece_before d i.0 n c.loop-number.left (omega (arith, c.if-place-left.false)) popped.1 i.3,
      keys_before d i.0 n c.in-Some-keys_start.start c.loop-number.keys
          c.in-Some-keys_start.ensures.order c.in-Some-keys_start.ensures.keys i.4,
    )
