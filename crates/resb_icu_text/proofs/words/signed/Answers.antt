use Rattle.std.proofs.Common.{sym, ◌∙◌}
use Rattle.resb_icu_grammar.specs.Numbers.{unsigned, plus}
use Rattle.resb_icu_text.proofs.WordsLemmas.{no_plus, no_minus, no_unsigned, is_minus}
use Rattle.resb_icu_text.proofs.Lists.{IfNone_from}
use Rattle.resb_icu_text.proofs.words.signed.Goals as goal

pub returns-in_err-value-clause-none : goal.returns-in_err-value-clause-none
returns-in_err-value-clause-none c =
    IfNone_from _ _
    (no_plus c.args.text.now c.args.from c.args.to (sym c.byte-b.ensures.byte ∙ c.if-b-eq43.true)
    c.in_err-value.ensures.none)

pub returns-then-b-eq43-clause-found : goal.returns-then-b-eq43-clause-found
returns-then-b-eq43-clause-found c =
    plus _ (sym c.byte-b.ensures.byte ∙ c.if-b-eq43.true) c.in_ok-value.ensures.found
    c.in_ok-value.ensures.limited

pub returns-in_err-value-2-clause-none : goal.returns-in_err-value-2-clause-none
returns-in_err-value-2-clause-none c =
    IfNone_from _ _
    (no_minus c.args.text.now c.args.from c.args.to (sym c.byte-b.ensures.byte ∙ c.if-b-eq45.true)
    c.in_err-value-2.ensures.none)

pub returns-then-b-eq45-clause-found : goal.returns-then-b-eq45-clause-found
returns-then-b-eq45-clause-found c =
    is_minus c.args.text.now c.args.from c.args.to _ _
    (sym c.byte-b.ensures.byte ∙ c.if-b-eq45.true) c.in_ok-value-2.ensures.found
    c.in_ok-value-2.ensures.limited c.negated.ensures

pub returns-in_err-value-3-clause-none : goal.returns-in_err-value-3-clause-none
returns-in_err-value-3-clause-none c =
    IfNone_from _ _
    (no_unsigned c.args.text.now c.args.from c.args.to
    (λ e. c.if-b-eq43.false (c.byte-b.ensures.byte ∙ e))
    (λ e. c.if-b-eq45.false (c.byte-b.ensures.byte ∙ e)) c.in_err-value-3.ensures.none)

pub returns-clause-found : goal.returns-clause-found
returns-clause-found c =
    unsigned _ c.in_ok-value-3.ensures.found c.in_ok-value-3.ensures.limited
