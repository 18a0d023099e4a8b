use Rattle.std.proofs.Common.{◌≡◌, get_or, reverse, subst, arith}
use Rattle.std.specs.declared.cmp.Ordering.TheVariants.{Greater}
use Rattle.resb_pool.specs.Order.{end_last_cmp}
use Rattle.resb_lent.proofs.ends.count_up_to.Goals as goal

pub returns-clause-behind : goal.returns-clause-behind
returns-clause-behind c = λ d l.
    let e : c.halves.high ≡ c.halves.low =
    omega (arith, c.halves.invariant.ordered, c.halves-test.false) in
    subst (λ k. end_last_cmp (reverse (get_or c.args.runs.now k d).bytes.now)
    (reverse c.args.key.now) ≡ Greater) e (c.halves.invariant.behind d (omega (arith, l, e)))
