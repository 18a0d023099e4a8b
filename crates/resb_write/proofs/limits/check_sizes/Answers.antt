-- The first fault of the sizes, or that there is none.
use Rattle.std.proofs.Common.{◌+◌, ◌^◌, ◌≤◌, sym, ◌∙◌, subst}
use Rattle.std.proofs.lemmas.Bool.{ltb-false}
use Rattle.resb_layout.specs.PlainSize.{list_size, resources_size}
use Rattle.resb_write.specs.Inner.Sizes.{IsTooMuch, at_fault, too_large}
use Rattle.resb_write.proofs.FaultsLemmas.{long_fault, over_fault, no_size_fault}
use Rattle.resb_write.proofs.limits.check_sizes.Goals as goal

pub returns-in-Some-clause-err : goal.returns-in-Some-clause-err
returns-in-Some-clause-err c = λ ts g.
    subst (IsTooMuch ts c.args.list.now) (sym c.string_too_long.ensures)
    (at_fault (long_fault ts c.in-Some.count (sym g.too_long_is ∙ c.in-Some.is)))

pub returns-then-contents-clause-err : goal.returns-then-contents-clause-err
returns-then-contents-clause-err c = λ ts g.
    subst (IsTooMuch ts c.args.list.now) (sym c.limit.ensures)
    (at_fault (over_fault ts (sym g.too_long_is ∙ c.in_default.is) (sym g.over_is
    ∙ c.if-contents.true)))

pub returns-clause-err : goal.returns-clause-err
returns-clause-err c = λ ts g.
    let large : 2 ^ 28 ≤ list_size c.args.list.now + resources_size ts
    = ltb-false (list_size c.args.list.now + resources_size ts) 268435456
    (sym (c.is_small.ensures ts g) ∙ c.if-is_small.false) in
    subst (IsTooMuch ts c.args.list.now) (sym c.limit-2.ensures)
    (too_large (no_size_fault ts (sym g.too_long_is ∙ c.in_default.is) (sym g.over_is
    ∙ c.if-contents.false)) large)
