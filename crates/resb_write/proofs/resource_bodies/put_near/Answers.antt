use Rattle.std.proofs.Common.{◌++◌, ◌∷◌, [], ◌∙◌, ap, arith, get_or}
use Rattle.resb_layout.specs.Laid.{near_by}
use Rattle.resb_write.specs.Inner.Lending.{lent_of}
use Rattle.resb_write.proofs.Each.{near_at, nears_more}
use Rattle.resb_write.proofs.resource_bodies.put_near.Goals as goal

pub overflow_cast-near : goal.overflow_cast-near
overflow_cast-near c = omega (
  arith,
  c.near.ensures,
  near_at (lent_of c.args.lent) c.args.positions.now c.loop-position.position-index c.requires
      c.loop-position-test.true,
)

pub loop-position-preserved : goal.loop-position-preserved
loop-position-preserved c =
    let us = c.args.units.now.items in
    let ps = c.args.positions.now in
    let i = c.loop-position.position-index in
    c.in_ok-push.ensures.items
    ∙ ap (λ k. c.loop-position.units.items ++ k ∷ []) c.near.ensures
    ∙ ap (λ l. l ++ near_by (lent_of c.args.lent) (get_or ps i 0) ∷ []) c.loop-position.invariant
    ∙ nears_more (lent_of c.args.lent) us ps i c.loop-position-test.true
