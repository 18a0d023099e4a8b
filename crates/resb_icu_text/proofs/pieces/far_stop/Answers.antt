use Rattle.std.proofs.Common.{◌≡◌, ◌-◌, ◌∙◌, ap, arith, drop, take, length, length-drop}
use Rattle.std.proofs.lemmas.List.{take_rest}
use Rattle.resb_icu_text.proofs.StopsLemmas.{stop_found, none_before}
use Rattle.resb_icu_text.proofs.pieces.far_stop.Goals as goal

pub returns-in-Some-clause-found : goal.returns-in-Some-clause-found
returns-in-Some-clause-found c =
    stop_found c.args.text.now _ c.args.from c.in-Some.n
    (take_rest c.as_bytes.result.now c.args.from ∙ ap (drop c.args.from) c.as_bytes.ensures.value)
    c.in-Some.ensures.0.high (λ k lt is. c.in-Some.ensures.0.before k (omega arith) lt is)
    c.in-Some.ensures.1

pub returns-in-None-clause-none : goal.returns-in-None-clause-none
returns-in-None-clause-none c k low high =
    let rest : length (take (length c.as_bytes.result.now - c.args.from)
    (drop c.args.from c.as_bytes.result.now)) ≡ length c.args.text.now - c.args.from =
    ap length (take_rest c.as_bytes.result.now c.args.from
    ∙ ap (drop c.args.from) c.as_bytes.ensures.value) ∙ length-drop c.args.from c.args.text.now in
    none_before c.args.text.now _ c.args.from (length c.args.text.now - c.args.from)
    (take_rest c.as_bytes.result.now c.args.from ∙ ap (drop c.args.from) c.as_bytes.ensures.value)
    (λ k lt is. c.in-None.ensures k (omega arith) (omega (arith, lt, rest)) is) k low
    (omega (arith, high, c.requires.within))
