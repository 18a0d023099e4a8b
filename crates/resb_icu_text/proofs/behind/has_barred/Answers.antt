-- A backslash or a `/*` is found, or neither.
use Rattle.std.proofs.Common.{◌≡◌, ◌-◌, ◌∙◌, ap, sym, arith, drop, take, length}
use Rattle.std.proofs.lemmas.List.{take_rest}
use Rattle.resb_icu_text.proofs.BehindLemmas.{backslash_found, opening_found, none_found}
use Rattle.resb_icu_text.proofs.behind.has_barred.Goals as goal

pub returns-in-Some-clause-found : goal.returns-in-Some-clause-found
returns-in-Some-clause-found c = λ e.
    backslash_found c.args.text.now _ c.args.from _
    (take_rest c.as_bytes.result.now c.args.from ∙ ap (drop c.args.from) c.as_bytes.ensures.value)
    c.in-Some.ensures.0.high c.in-Some.ensures.1

pub returns-in-None-clause-found : goal.returns-in-None-clause-found
returns-in-None-clause-found c = λ e.
    opening_found c.args.text.now _ c.args.from _
    (take_rest c.as_bytes.result.now c.args.from ∙ ap (drop c.args.from) c.as_bytes.ensures.value)
    c.find.ensures (sym c.is_some.ensures ∙ e)

pub returns-in-None-clause-none : goal.returns-in-None-clause-none
returns-in-None-clause-none c = λ e.
    none_found c.args.text.now _ c.args.from _
    (take_rest c.as_bytes.result.now c.args.from ∙ ap (drop c.args.from) c.as_bytes.ensures.value)
    c.requires.within (λ k low is. c.in-None.ensures k (omega arith) low is)
    c.find.ensures (sym c.is_some.ensures ∙ e)
