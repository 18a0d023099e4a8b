use Rattle.std.proofs.Common.{◌≤◌, ◌+◌, length, ℕ, sym, subst}
use Rattle.resb_swap.specs.Packages.{table_end, IsNameInPlace}
use Rattle.resb_swap.specs.Inner.Seen.{seen}
use Rattle.resb_swap.proofs.PackageLemmas.{first_behind, first_inside, one_more}
use Rattle.resb_swap.proofs.items.check_names.Goals as goal

pub zero_end-end-requires-clause-order : goal.zero_end-end-requires-clause-order
zero_end-end-requires-clause-order c =
    subst (λ (n : ℕ). n ≤ c.item_place.result) (sym c.table_end.ensures)
    (subst (λ (n : ℕ). table_end (seen c.args.body) ≤ n) (sym c.item_place.ensures)
    (first_behind (seen c.args.body) c.requires.items c.requires.table c.args.body.inside))

pub zero_end-end-requires-clause-inside : goal.zero_end-end-requires-clause-inside
zero_end-end-requires-clause-inside c =
    subst (λ (n : ℕ). c.args.body.start + n ≤ length c.args.body.bytes.now)
    (sym c.item_place.ensures)
    (first_inside (seen c.args.body) c.requires.items c.args.body.inside)

pub loop-number-preserved : goal.loop-number-preserved
loop-number-preserved c =
    one_more (IsNameInPlace (seen c.args.body)) c.loop-number.number c.loop-number.invariant
    c.in_ok-check_name.ensures
