use Rattle.std.proofs.Common.{◌∙◌}
use Rattle.resb_icu_grammar.specs.Numbers.{a_word}
use Rattle.resb_icu_text.proofs.WordsLemmas.{no_number, no_empty_word}
use Rattle.resb_icu_text.proofs.Lists.{IfNone_from}
use Rattle.resb_icu_text.proofs.words.number.Goals as goal

pub returns-then-from-end-clause-none : goal.returns-then-from-end-clause-none
returns-then-from-end-clause-none c =
    no_empty_word c.args.text.now c.args.from c.word_end-end.result
    (λ e. c.if-byte-eq34.false (c.byte.ensures.byte ∙ e)) c.word_end-end.ensures.run
    c.if-from-end.true

pub returns-in_err-value-clause-none : goal.returns-in_err-value-clause-none
returns-in_err-value-clause-none c =
    IfNone_from _ _
    (no_number c.args.text.now c.args.from c.word_end-end.result
    (λ e. c.if-byte-eq34.false (c.byte.ensures.byte ∙ e)) c.word_end-end.ensures.run
    c.in_err-value.ensures.none)

pub returns-clause-found : goal.returns-clause-found
returns-clause-found c = a_word _ c.word_end-end.ensures.run c.in_ok-value.ensures.found
