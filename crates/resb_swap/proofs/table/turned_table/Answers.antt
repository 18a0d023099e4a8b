use Rattle.std.proofs.Common.{List, sym, subst}
use Rattle.resb_swap.specs.Numbers.{Numbered}
use Rattle.resb_swap.specs.Packages.{TableRoles}
use Rattle.resb_swap.specs.Inner.Mirror.{Paired, AreOrders}
use Rattle.resb_swap.specs.declared.role.Role.{Role}
use Rattle.resb_swap.proofs.PackageLemmas.{known_order, table_orders, table_paired}
use Rattle.resb_swap.proofs.table.turned_table.Goals as goal

pub mirrored-requires-clause-orders : goal.mirrored-requires-clause-orders
mirrored-requires-clause-orders c =
    let e = c.in_ok-body.ensures in
    let P : Numbered → Type 0 = λ f. TableRoles f c.in_ok-roles.roles.items in
    let Q : List Role → Type 0 = λ rs. AreOrders rs c.args.bytes.now in
    subst Q (sym c.deref.ensures.value) (table_orders _ _ (subst P e.1 c.in_ok-roles.ensures)
    (known_order _ e.0.kind))

pub mirrored-requires-clause-paired : goal.mirrored-requires-clause-paired
mirrored-requires-clause-paired c =
    let Q : List Role → Type 0 = Paired in
    subst Q (sym c.deref.ensures.value) (table_paired _ _ c.in_ok-roles.ensures)
