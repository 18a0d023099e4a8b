use Rattle.std.proofs.Common.{◌≡◌, ◌≤◌, ◌+◌, ◌∙◌, sym, arith, slice_index, subst, refl}
use Rattle.resb_grammar.specs.Ascii as ascii
use Rattle.resb_icu_grammar.specs.Numbers.{in_quotes, nothing}
use Rattle.resb_icu_text.proofs.WordsLemmas.{no_closing, no_signed_in_quotes}
use Rattle.resb_icu_text.proofs.Lists.{IfNone_from}
use Rattle.resb_icu_text.proofs.words.quoted_number.Goals as goal

pub returns-then-byte-ne34-clause-none : goal.returns-then-byte-ne34-clause-none
returns-then-byte-ne34-clause-none c =
    no_closing c.args.text.now c.args.from c.word_end-last.result c.requires.opens
    c.word_end-last.ensures.run (λ e. c.if-byte-ne34.true (c.byte.ensures.byte ∙ e))

pub returns-then-last-from-clause-found : goal.returns-then-last-from-clause-found
returns-then-last-from-clause-found c =
    let q = sym c.byte.ensures.byte ∙ c.if-byte-ne34.false in
    let same : c.word_end-last.result ≡ c.args.from + 1 = c.if-last-from.true in
    nothing c.requires.opens
    (subst (λ i. slice_index c.args.text.now i ≡ ascii.quote) same q) (omega (arith, same))

pub returns-in_err-value-clause-none : goal.returns-in_err-value-clause-none
returns-in_err-value-clause-none c =
    IfNone_from _ _
    (no_signed_in_quotes c.args.text.now c.args.from c.word_end-last.result c.requires.opens
    c.word_end-last.ensures.run c.if-last-from.false c.in_err-value.ensures.none)

pub returns-clause-found : goal.returns-clause-found
returns-clause-found c =
    in_quotes c.word_end-last.result _ c.requires.opens c.word_end-last.ensures.run
    c.in_ok-value.ensures.found (sym c.byte.ensures.byte ∙ c.if-byte-ne34.false) refl
