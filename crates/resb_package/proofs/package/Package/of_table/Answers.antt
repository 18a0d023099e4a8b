-- The first item that is refused answers, and then the first name.
use Rattle.std.proofs.Common.{ℕ, List, ◌≡◌, ◌-◌, ◌+◌, ◌*◌, ◌<◌, ◌≤◌, length, Some, None, sym, ap}
use Rattle.std.proofs.Common.{◌∙◌, arith, rules}
use Rattle.resb_package.specs.Table.{count_in}
use Rattle.resb_package.specs.Checks.{refusal_from, item_checks, order_check, table_refusal}
use Rattle.resb_package.proofs.Entries.{next_number, stops_here, at_the_end}
use Rattle.resb_package.proofs.Passing.{table_outside, item_refused, order_refused, table_holds}
use Rattle.resb_package.proofs.package.Package.of_table.Goals as goal

pub returns-in_default : goal.returns-in_default
returns-in_default c = table_outside c.args.bytes.now c.in_default.ensures

pub returns-in_err-check_item : goal.returns-in_err-check_item
returns-in_err-check_item c =
    let t : List ℕ = c.in-Some.table.bytes.now in
    let i : ℕ = c.items.number in
    let x = c.in_err-check_item.field-0.0 in
    let l : i < count_in t = omega (arith, c.count-number-end.ensures, c.items-test.true) in
    let inside : 4 + 8 * count_in t ≤ length t =
    omega (arith, c.in-Some.table.counted, c.in-Some.table.inside) in
    let h : table_refusal t ≡ Some x = item_refused t x inside
    (sym c.items.invariant
    ∙ stops_here (item_checks t) i (count_in t) x l c.in_err-check_item.ensures) in
    let k : table_refusal c.args.bytes.now ≡ Some x =
    ap table_refusal (sym c.in-Some.ensures) ∙ h in
    search (rules, k)

pub items-preserved : goal.items-preserved
items-preserved c =
    let t : List ℕ = c.in-Some.table.bytes.now in
    let i : ℕ = c.items.number in
    let l : i < count_in t = omega (arith, c.count-number-end.ensures, c.items-test.true) in
    sym (next_number (item_checks t) i (count_in t) l c.in_ok-check_item.ensures)
    ∙ c.items.invariant

pub returns-in_err-check_order : goal.returns-in_err-check_order
returns-in_err-check_order c =
    let t : List ℕ = c.in-Some.table.bytes.now in
    let i : ℕ = c.names.number in
    let x = c.in_err-check_order.field-0.0 in
    let e : count_in t ≤ c.items.number =
    omega (arith, c.count-number-end.ensures, c.items-test.false) in
    let n : refusal_from (item_checks t) 0 (count_in t) ≡ None =
    sym c.items.invariant ∙ at_the_end (item_checks t) c.items.number (count_in t) e in
    let l : i < count_in t - 1 =
    omega (arith, c.count.ensures, c.saturating_sub-number-end.ensures, c.names-test.true) in
    let inside : 4 + 8 * count_in t ≤ length t =
    omega (arith, c.in-Some.table.counted, c.in-Some.table.inside) in
    let h : table_refusal t ≡ Some x = order_refused t x inside n
    (sym c.names.invariant
    ∙ stops_here (order_check t) i (count_in t - 1) x l c.in_err-check_order.ensures) in
    let k : table_refusal c.args.bytes.now ≡ Some x =
    ap table_refusal (sym c.in-Some.ensures) ∙ h in
    search (rules, k)

pub names-preserved : goal.names-preserved
names-preserved c =
    let t : List ℕ = c.in-Some.table.bytes.now in
    let i : ℕ = c.names.number in
    let l : i < count_in t - 1 =
    omega (arith, c.count.ensures, c.saturating_sub-number-end.ensures, c.names-test.true) in
    sym (next_number (order_check t) i (count_in t - 1) l c.in_ok-check_order.ensures)
    ∙ c.names.invariant

pub invariant_of-result : goal.invariant_of-result
invariant_of-result c =
    let t : List ℕ = c.in-Some.table.bytes.now in
    let e : count_in t ≤ c.items.number =
    omega (arith, c.count-number-end.ensures, c.items-test.false) in
    let n : refusal_from (item_checks t) 0 (count_in t) ≡ None =
    sym c.items.invariant ∙ at_the_end (item_checks t) c.items.number (count_in t) e in
    let f : count_in t - 1 ≤ c.names.number =
    omega (arith, c.count.ensures, c.saturating_sub-number-end.ensures, c.names-test.false) in
    let m : refusal_from (order_check t) 0 (count_in t - 1) ≡ None =
    sym c.names.invariant ∙ at_the_end (order_check t) c.names.number (count_in t - 1) f in
    let inside : 4 + 8 * count_in t ≤ length t =
    omega (arith, c.in-Some.table.counted, c.in-Some.table.inside) in
    record { checked = table_holds t inside n m }
