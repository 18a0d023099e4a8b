use Rattle.std.proofs.Common.{◌++◌, [], ◌∙◌, ap, take, get_or, arith}
use Rattle.std.specs.Int.{to_le_bytes, w16}
use Rattle.std.proofs.lemmas.List.{flat_map_more}
use Rattle.resb_format.specs.Bytes.{units_as_bytes}
use Rattle.resb_layout.specs.Laid.{near_by, nears_by}
use Rattle.resb_write.specs.Inner.Lending.{lent_of}
use Rattle.resb_write.proofs.Each.{near_at, nears_more}
use Rattle.resb_write.proofs.tail_bytes.put_halves.Goals as goal

pub overflow_cast-near : goal.overflow_cast-near
overflow_cast-near c = omega (
  arith,
  c.near.ensures,
  near_at (lent_of c.args.lent) c.args.positions.now c.loop-position.position-index c.requires
      c.loop-position-test.true,
)

pub loop-position-preserved : goal.loop-position-preserved
loop-position-preserved c =
    let bs = c.args.tail.now.items in
    let ps = c.args.positions.now in
    let i = c.loop-position.position-index in
    let lent = lent_of c.args.lent in
    c.in_ok-put_half.ensures
    ∙ ap (λ k. c.loop-position.tail.items ++ to_le_bytes w16 k) c.near.ensures
    ∙ ap (λ l. l ++ to_le_bytes w16 (near_by lent (get_or ps i 0))) c.loop-position.invariant
    ∙ flat_map_more (to_le_bytes w16) bs (nears_by lent (take i ps)) (near_by lent (get_or ps i 0))
    ∙ ap (λ l. bs ++ units_as_bytes l) (nears_more lent [] ps i c.loop-position-test.true)
