use Rattle.std.proofs.Common.{◌≡◌, List, sym, subst, length, ap, arith, rules, ◌∙◌}
use Rattle.resb_swap.specs.Numbers.{Numbered}
use Rattle.std.proofs.lemmas.Result.{err_from_is_err_and}
use Rattle.resb_swap.specs.Inner.Seen.{seen}
use Rattle.resb_swap.proofs.PackageLemmas.{known_order, table_orders, table_paired}
use Rattle.resb_swap.specs.Packages.{TableRoles}
use Rattle.resb_swap.specs.Inner.Mirror.{Paired, AreOrders}
use Rattle.resb_swap.specs.declared.role.Role.{Role}
use Rattle.resb_swap.proofs.PackageSteps.{told_inside, swaps_more, finished, item_fault}
use Rattle.resb_swap.proofs.package.swapped_package.Goals as goal

pub overflow_add-front : goal.overflow_add-front
overflow_add-front c =
    let e = told_inside (seen c.in_ok-body.body) 0 c.item_place.result c.item_place.ensures
    c.in_ok-check_items.ensures c.in_ok-body.body.inside (omega arith) in
    let l : length (seen c.in_ok-body.body).bytes ≡ length c.args.bytes.now =
    ap (λ (f : Numbered). length f.bytes) c.in_ok-body.ensures.1 in
    omega (arith, e, l)

pub mirrored_front-requires-clause-orders : goal.mirrored_front-requires-clause-orders
mirrored_front-requires-clause-orders c =
    let e = c.in_ok-body.ensures in
    let P : Numbered → Type 0 = λ f. TableRoles f c.in_ok-roles.roles.items in
    let Q : List Role → Type 0 = λ rs. AreOrders rs c.args.bytes.now in
    subst Q (sym c.deref.ensures.value) (table_orders _ _ (subst P e.1 c.in_ok-roles.ensures)
    (known_order _ e.0.kind))

pub mirrored_front-requires-clause-paired : goal.mirrored_front-requires-clause-paired
mirrored_front-requires-clause-paired c =
    let Q : List Role → Type 0 = Paired in
    subst Q (sym c.deref.ensures.value) (table_paired _ _ c.in_ok-roles.ensures)

pub mirrored_front-requires-clause-inside : goal.mirrored_front-requires-clause-inside
mirrored_front-requires-clause-inside c =
    let e = told_inside (seen c.in_ok-body.body) 0 c.item_place.result c.item_place.ensures
    c.in_ok-check_items.ensures c.in_ok-body.body.inside (omega arith) in search (rules, e)

pub returns-in_err-other : goal.returns-in_err-other
returns-in_err-other c =
    let p = err_from_is_err_and c.from_residual-in_err-other.result
    c.from_residual-in_err-other.ensures.1 in
    rw (p.1, p.2) (item_fault _ _ c.in_err-other.field-0.0 c.in_ok-body.ensures.1
    c.in_err-other.ensures)

pub loop-number-preserved : goal.loop-number-preserved
loop-number-preserved c =
    swaps_more (seen c.in_ok-body.body) _ _ c.in_ok-other.other.items _ c.loop-number.number
    (search rules) c.in_ok-check_items.ensures c.in_ok-body.body.inside
    (search rules) c.loop-number.invariant c.in_ok-other.ensures

pub returns : goal.returns
returns c =
    let all : c.loop-number.number ≡ c.item_count-number-end.result = omega arith in
    finished _ (seen c.in_ok-body.body) _ _ c.loop-number.number c.in_ok-body.ensures.0
    c.in_ok-body.ensures.1 c.in_ok-check_items.ensures c.in_ok-check_names.ensures
    c.in_ok-roles.ensures c.in_ok-body.body.inside (all ∙ c.item_count-number-end.ensures.value)
    c.loop-number.invariant
