use Rattle.std.proofs.Common.{◌-◌, length, ◌∙◌}
use Rattle.resb_pool.proofs.Cut.{in_parts, more_end}
use Rattle.resb_pool.proofs.suffix_order.strip_eights.Goals as goal

pub blocks-2-preserved : goal.blocks-2-preserved
blocks-2-preserved c =
    let us = c.blocks-2.lefts.now in
    let vs = c.blocks-2.rights.now in
    let u = c.in-Some.left_rest.now in
    let v = c.in-Some-split_last_chunk.right_rest.now in
    let z = c.in-Some.left_block.now in
    let h = c.in-Some.ensures.cases in
    let k = c.in-Some-split_last_chunk.ensures.cases in
    let same = c.are_same.ensures c.if-not-are_same.false in
    more_end c.args.left.now c.args.right.now us vs u v z c.blocks-2.invariant
    (in_parts us u z (length us - 8) h.0 h.1)
    (in_parts vs v z (length vs - 8) k.0 (same ∙ k.1))
