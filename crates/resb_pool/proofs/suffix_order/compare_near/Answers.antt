use Rattle.std.proofs.Common.{reverse, sym, ◌∙◌}
use Rattle.resb_pool.specs.Order.{end_last_cmp}
use Rattle.resb_pool.proofs.Utf8Order.{near_text}
use Rattle.resb_pool.proofs.suffix_order.compare_near.Goals as goal

pub returns : goal.returns
returns c =
    let l = c.args.left.now in
    let r = c.args.right.now in
    c.compare_with_digits.ensures
    ∙ sym (λ i. end_last_cmp
    (reverse (near_text l c.utf8.left c.requires.near_left i))
    (reverse (near_text r c.utf8.right c.requires.near_right i)))
