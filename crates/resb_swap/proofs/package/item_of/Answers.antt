use Rattle.std.proofs.Common.{◌+◌, arith}
use Rattle.resb_swap.specs.Inner.Seen.{seen}
use Rattle.resb_swap.proofs.PackageSteps.{told_inside}
use Rattle.resb_swap.proofs.package.item_of.Goals as goal

pub overflow_add-from : goal.overflow_add-from
overflow_add-from c =
    let e = told_inside (seen c.args.body) c.args.number c.item_place.result c.item_place.ensures
    c.requires.items c.args.body.inside (omega (arith, c.requires.inside)) in omega (arith, e)

pub overflow_add-to : goal.overflow_add-to
overflow_add-to c =
    let e = told_inside (seen c.args.body) (c.args.number + 1) c.item_place-2.result
    c.item_place-2.ensures c.requires.items c.args.body.inside (omega (arith, c.requires.inside)) in
    omega (arith, e)

pub part-requires-clause-inside : goal.part-requires-clause-inside
part-requires-clause-inside c =
    told_inside (seen c.args.body) (c.args.number + 1) c.item_place-2.result c.item_place-2.ensures
    c.requires.items c.args.body.inside (omega (arith, c.requires.inside))
