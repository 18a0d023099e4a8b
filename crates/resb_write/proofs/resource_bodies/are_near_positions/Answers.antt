use Rattle.std.proofs.Common.{◌≡◌, ◌&&◌, length, true, nat_le, sym, ◌∙◌, ap, arith}
use Rattle.std.specs.List.{list_all}
use Rattle.std.proofs.lemmas.Bool.{le-leb, lt-leb, and_right}
use Rattle.std.proofs.lemmas.List.{take_all}
use Rattle.std.proofs.lemmas.List.Folds.{list_all_at}
use Rattle.resb_layout.specs.Laid.{near_by}
use Rattle.resb_write.specs.Inner.Lending.{lent_of}
use Rattle.resb_write.proofs.Each.{near_is_each}
use Rattle.resb_write.proofs.resource_bodies.are_near_positions.Goals as goal

pub returns-then-near-gt65535 : goal.returns-then-near-gt65535
returns-then-near-gt65535 c =
    let ps = c.args.positions.now in
    let lent = lent_of c.args.lent in
    let far = lt-leb (near_by lent _) 65535 (omega (
      arith,
      c.near.ensures,
      c.if-near-gt65535.true,
    )) in
    sym (near_is_each lent ps ∙ and_right (nat_le (length ps) 65535) _
    (list_all_at (λ p. nat_le (near_by lent p) 65535) ps c.loop-position.position-index 0
    c.loop-position-test.true far))

pub returns : goal.returns
returns c =
    let ps = c.args.positions.now in
    let lent = lent_of c.args.lent in
    let few = le-leb (length ps) 65535 c.if-positions-gt-UNIT_MAX.false in
    let all : list_all (λ p. nat_le (near_by lent p) 65535) ps ≡ true =
    ap (list_all (λ p. nat_le (near_by lent p) 65535))
    (sym (take_all c.loop-position.position-index ps c.loop-position-test.false))
    ∙ c.loop-position.invariant in
    sym (near_is_each lent ps ∙ (λ i. few i && all i))
