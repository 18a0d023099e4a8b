use Rattle.std.proofs.Common.{rules, ◌≡◌, ap, subst, sym}
use Rattle.std.specs.List.Sorted.{IsSorted}
use Rattle.std.specs.Ordering.{is_lt}
use Rattle.std.proofs.lemmas.Fn.{always_returns_same}
use Rattle.std.proofs.lemmas.List.Sorted.{All-permutation}
use Rattle.resb_pool.specs.Plan.{nows}
use Rattle.resb_pool.specs.Inner.Placing.{IsRecordOf, record_cmp, fronted_cmp}
use Rattle.resb_pool.specs.declared.packing.Packing.TheVariants.{Compact}
use Rattle.resb_pool.specs.declared.records.Record.{Record}
use Rattle.resb_pool.proofs.FrontBytes.{in_order, fronted_order}
use Rattle.resb_pool.proofs.StartOrder.{record_order, near_records}
use Rattle.resb_pool.proofs.records.ordered.Goals as goal

pub returns-then-are_compared_by_units-clause-ascend :
    goal.returns-then-are_compared_by_units-clause-ascend
returns-then-are_compared_by_units-clause-ascend c =
    let T = nows c.args.texts.now in
    let sorted = c.sort_unstable_by.new.self.items in
    subst (λ w. IsSorted (record_cmp w T) sorted)
    (sym (c.are_compared_by_units.ensures.yes c.if-are_compared_by_units.true))
    (c.sort_unstable_by.ensures.sorted (λ (x y : Record). is_lt (record_cmp Compact T x y))
    (record_order Compact T)
    (always_returns_same _ (λ a r. is_lt r ≡ is_lt (record_cmp Compact T a.0.now a.1.0.now)) _
    (λ a r f q. (let e : r ≡ record_cmp Compact T a.0.now a.1.0.now = search rules in
    (ap is_lt e, search rules)))))

pub returns-clause-ascend : goal.returns-clause-ascend
returns-clause-ascend c =
    let T = nows c.args.texts.now in
    let sorted = c.sort_unstable_by-2.new.self.items in
    let sums = c.requires.each.0 in
    let each = All-permutation (IsRecordOf T sums) c.args.records.items sorted
    c.sort_unstable_by-2.ensures.permutation c.requires.each.1 in
    near_records c.args.packing T c.requires.utf8
    (c.are_compared_by_units.ensures.no c.if-are_compared_by_units.false) sums sorted each
    (in_order T sums sorted each
    (c.sort_unstable_by-2.ensures.sorted (λ (x y : Record). is_lt (fronted_cmp T x y))
    (fronted_order T)
    (always_returns_same _ (λ a r. is_lt r ≡ is_lt (fronted_cmp T a.0.now a.1.0.now)) _
    (λ a r f q. (let e : r ≡ fronted_cmp T a.0.now a.1.0.now = search rules in
    (ap is_lt e, search rules))))))
