use Rattle.std.proofs.Common.{◌≡◌, ◌<◌, length, get_or, slice_index, ◌∙◌, ap, arith}
use Rattle.std.specs.Prelude.{slice_set}
use Rattle.std.proofs.lemmas.Grind.{common_steps}
use Rattle.std.proofs.lemmas.List.{get_or_default}
use Rattle.std.proofs.lemmas.List.Edits.{map_over_more}
use Rattle.resb_pool.proofs.offsets.in_turn.Goals as goal

pub loop-turn-preserved : goal.loop-turn-preserved
loop-turn-preserved c =
    let os = c.args.offsets.now in
    let xs = c.args.indexes.items in
    let ys = c.loop-turn.turn-items in
    let i = c.loop-turn.turn-index in
    let l : i < length ys = omega (arith, c.loop-turn-test.true, c.loop-turn.auto.turn-items) in
    let n : length ys ≡ length xs = omega (
      arith,
      c.loop-turn.auto.turn-items,
      ap length c.deref_mut-turn-items.ensures.value,
    ) in
    let e : c.unwrap_or.result ≡ slice_index os (get_or ys i 0) = grind (arith, common_steps) in
    ap (slice_set ys i) e
    ∙ map_over_more (slice_index os) xs ys i (get_or ys i 0) (omega (arith, l, n))
    c.loop-turn.invariant (get_or_default ys i 0 (get_or ys i 0) l)
