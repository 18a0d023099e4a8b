use Rattle.std.proofs.Common.{◌≤◌, List, sym, subst}
use Rattle.resb_swap.specs.Inner.Mirror.{Paired, AreOrders}
use Rattle.resb_swap.specs.declared.role.Role.{Role}
use Rattle.resb_swap.specs.Numbers.{Numbered}
use Rattle.resb_swap.specs.Roles.{RolesOf}
use Rattle.resb_swap.proofs.Heads.{header_from, size_enough}
use Rattle.resb_swap.proofs.PairLemmas.{roles_orders, roles_paired}
use Rattle.resb_swap.proofs.swap.swapped.Goals as goal

pub mirrored-requires-clause-headed : goal.mirrored-requires-clause-headed
mirrored-requires-clause-headed c =
    let e = c.in_ok-body.ensures in
    let P : Numbered → Type 0 = λ f. 24 ≤ f.start in
    subst P (sym e.1) (size_enough _ e.0.header)

pub mirrored-requires-clause-orders : goal.mirrored-requires-clause-orders
mirrored-requires-clause-orders c =
    let e = c.in_ok-body.ensures in
    let P : Numbered → Type 0 = λ f. RolesOf f c.in_ok-roles.roles.items in
    let Q : List Role → Type 0 = λ rs. AreOrders rs c.args.bytes.now in
    subst Q (sym c.deref.ensures.value) (roles_orders _ _ (subst P e.1 c.in_ok-roles.ensures)
    (header_from _ e.0.header).known_endianness)

pub mirrored-requires-clause-paired : goal.mirrored-requires-clause-paired
mirrored-requires-clause-paired c =
    let Q : List Role → Type 0 = Paired in
    subst Q (sym c.deref.ensures.value) (roles_paired _ _ c.in_ok-roles.ensures)
