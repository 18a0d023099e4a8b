-- What is refused is refused from this number on, if anywhere.
use Rattle.std.proofs.Common.{◌≡◌, ◌-◌}
use Rattle.resb_package.specs.Table.{count_in}
use Rattle.resb_package.specs.Checks.{refusal_from, item_checks, order_check}
use Rattle.resb_package.proofs.package.Package.of_table.Given as goal

abbrev pub invariant-items : goal.invariant-items
invariant-items l =
    let t = l.table.bytes.now in
    refusal_from (item_checks t) l.number (count_in t - l.number)
    ≡ refusal_from (item_checks t) 0 (count_in t)

abbrev pub invariant-names : goal.invariant-names
invariant-names l =
    let t = l.table.bytes.now in
    refusal_from (order_check t) l.number (count_in t - 1 - l.number)
    ≡ refusal_from (order_check t) 0 (count_in t - 1)
