use Rattle.std.proofs.Common.{◌≡◌, ◌<◌, length, get_or, slice_index, ◌∙◌, ap, arith}
use Rattle.std.specs.Prelude.{slice_set}
use Rattle.std.proofs.lemmas.Grind.{common_steps}
use Rattle.std.proofs.lemmas.List.{get_or_default}
use Rattle.std.proofs.lemmas.List.Edits.{map_over_more}
use Rattle.resb_write.proofs.key_block.values_at.Goals as goal

pub loop-index-preserved : goal.loop-index-preserved
loop-index-preserved c =
    let vs = c.args.values.now in
    let xs = c.args.indexes.items in
    let ys = c.loop-index.index-items in
    let i = c.loop-index.index-index in
    let l : i < length ys = omega (
      arith,
      c.loop-index-test.true,
      c.loop-index.auto.index-items,
    ) in
    let n : length ys ≡ length xs = omega (
      arith,
      c.loop-index.auto.index-items,
      ap length c.deref_mut-index-items.ensures.value,
    ) in
    let e : c.unwrap_or.result ≡ slice_index vs (get_or ys i 0) = grind (arith, common_steps) in
    ap (slice_set ys i) e
    ∙ map_over_more (slice_index vs) xs ys i (get_or ys i 0) (omega (arith, l, n))
    c.loop-index.invariant (get_or_default ys i 0 (get_or ys i 0) l)
