-- The block that both end with goes over to the shared end.
use Rattle.std.proofs.Common.{◌≡◌, List, ℕ, ◌++◌, sym, ◌∙◌, ap}
use Rattle.resb_pool.specs.Inner.Cuts.{IsCut}
use Rattle.resb_pool.proofs.Cut.{nothing_shared, shared_end, shared_deeper}
use Rattle.resb_pool.proofs.suffix_order.strip_blocks.Goals as goal

pub loop-left_rest-init : goal.loop-left_rest-init
loop-left_rest-init c = record {
  left_text = c.utf8.left;
  right_text = c.utf8.right;
  shared = nothing_shared c.args.left.now c.args.right.now c.utf8.left c.utf8.right;
}

pub loop-left_rest-preserved : goal.loop-left_rest-preserved
loop-left_rest-preserved c =
    let i = c.loop-left_rest.invariant.shared in
    let lefts = c.loop-left_rest.lefts.now in
    let rights = c.loop-left_rest.rights.now in
    let left_rest = c.in-Some.left_rest.now in
    let block = c.in-Some.block.now in
    let right_rest = c.in-Some-strip_suffix.right_rest.now in
    let cut : IsCut lefts left_rest block = c.in-Some.ensures.cut in
    let strips = c.in-Some-strip_suffix.ensures.cases in
    let is : rights ≡ right_rest ++ block =
    strips.1.1 ∙ ap (λ (l : List ℕ). l ++ block) (sym strips.2) in
    let more = shared_end lefts rights left_rest right_rest block i.right.rest_utf8 cut is in
    record {
      left_text = cut.rest_utf8;
      right_text = more.right.rest_utf8;
      shared = shared_deeper c.args.left.now c.args.right.now lefts rights left_rest right_rest i
          more;
    }
