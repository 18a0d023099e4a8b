use Rattle.std.proofs.Common.{length, ap, arith, map, ◌∙◌, ◌++◌, ◌∷◌, []}
use Rattle.std.proofs.lemmas.List.{map_push}
use Rattle.resb_tree.specs.View.{tree_of}
use Rattle.resb_text.specs.Borrowed.{borrows_strings}
use Rattle.std.specs.Vec.Iter.{into_iter_items}
use Rattle.resb_text.specs.Inner.Shown.{seen_in_code, shown_tree, shown_borrowed}
use Rattle.resb_text.proofs.ShownLemmas.{term_tree_shown, term_borrowed_shown, shown_one_more}
use Rattle.resb_text.proofs.trees.add_resources.Goals as goal

pub loop-item-preserved : goal.loop-item-preserved
loop-item-preserved c =
    let i = c.loop-item.invariant in
    let left = into_iter_items c.loop-item.item-iterator in
    let rest = into_iter_items c.next.new.self in
    let steps = c.in-Some.ensures.steps in
    let had = c.loop-item.resources.items in
    let pushed = c.in_ok-push.ensures.items in
    let made = c.resource_of in
    let one = ap length steps.0 in
    let item = c.in-Some.item in
    let counted = c.tick.ensures in
    record {
      made = shown_one_more shown_tree seen_in_code _ _ _ left rest item _ steps.0
          (ap (map tree_of) pushed ∙ map_push tree_of had made.result
          ∙ ap (λ t. map tree_of had ++ t ∷ []) made.ensures.tree)
          (term_tree_shown item.term item.comma) i.made;
      borrowed = shown_one_more shown_borrowed seen_in_code _ _ _ left rest item _ steps.0
          (ap (map borrows_strings) pushed ∙ map_push borrows_strings had made.result
          ∙ ap (λ b. map borrows_strings had ++ b ∷ []) made.ensures.borrowed)
          (term_borrowed_shown item.term item.comma) i.borrowed;
      count = omega (arith, counted, i.count, one);
    }
