use Rattle.std.proofs.Common.{refl, arith}
use Rattle.resb_swap.proofs.Places.{head_inside, told_place, last_place}
use Rattle.resb_swap.proofs.mirror.mirror_place.Goals as goal

pub returns-then-place-start-clause-inside : goal.returns-then-place-start-clause-inside
returns-then-place-start-clause-inside c =
    head_inside c.args.roles.now c.args.start c.args.place _ _ c.header_place.ensures
    c.requires.headed
    c.requires.begun c.if-place-start.true

pub returns-then-number-roles-clause-value : goal.returns-then-number-roles-clause-value
returns-then-number-roles-clause-value c =
    last_place _ _ _ c.if-place-start.false c.if-number-roles.true

pub returns-clause-value : goal.returns-clause-value
returns-clause-value c = (told_place _ _ _ _ _ _ _ c.requires.paired c.requires.headed
    c.requires.begun
    c.if-place-start.false
    c.requires.inside c.requires.whole refl c.partner.ensures c.turn.ensures).0

pub returns-clause-inside : goal.returns-clause-inside
returns-clause-inside c = (told_place _ _ _ _ _ _ _ c.requires.paired c.requires.headed
    c.requires.begun
    c.if-place-start.false
    c.requires.inside c.requires.whole refl c.partner.ensures c.turn.ensures).1

pub overflow_add-result : goal.overflow_add-result
overflow_add-result c =
    let lt = (told_place _ _ _ _ _ _ _ c.requires.paired c.requires.headed c.requires.begun
    c.if-place-start.false
    c.requires.inside c.requires.whole refl c.partner.ensures c.turn.ensures).1 in omega (arith, lt)

pub overflow_add-result-2 : goal.overflow_add-result-2
overflow_add-result-2 c =
    let lt = (told_place _ _ _ _ _ _ _ c.requires.paired c.requires.headed c.requires.begun
    c.if-place-start.false
    c.requires.inside c.requires.whole refl c.partner.ensures c.turn.ensures).1 in omega (arith, lt)
