use Rattle.std.proofs.Common.{refl, arith}
use Rattle.resb_icu_text.proofs.EscapesLemmas.{eight_are, not_first, not_last}
use Rattle.resb_icu_text.proofs.Lists.{IfNone_from}
use Rattle.resb_icu_text.proofs.escapes.eight_digits.Goals as goal

pub returns-in_err-high-clause-none : goal.returns-in_err-high-clause-none
returns-in_err-high-clause-none c =
    IfNone_from _ _ (not_first c.args.text.now c.args.from c.in_err-high.ensures.none)

pub returns-in_err-low-clause-none : goal.returns-in_err-low-clause-none
returns-in_err-low-clause-none c =
    IfNone_from _ _ (not_last c.args.text.now c.args.from c.in_err-low.ensures.none)

pub returns-clause-found : goal.returns-clause-found
returns-clause-found c =
    let h = c.in_ok-high.ensures.found in
    let l = c.in_ok-low.ensures.found in
    let all = eight_are c.args.text.now c.args.from c.in_ok-high.high c.in_ok-low.low _ h.0 h.1 l.0
    l.1 refl in
    (all.0, all.1, omega (arith, l.3))
