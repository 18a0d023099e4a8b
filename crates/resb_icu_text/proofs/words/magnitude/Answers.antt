use Rattle.std.proofs.Common.{sym, ◌∙◌}
use Rattle.resb_icu_grammar.specs.Numbers.{decimal, octal, hex}
use Rattle.resb_icu_text.proofs.WordsLemmas.{no_decimal, no_hex_number, no_octal_number}
use Rattle.resb_icu_text.proofs.Lists.{IfNone_from}
use Rattle.resb_icu_text.proofs.words.magnitude.Goals as goal

pub returns-in_err-value-clause-none : goal.returns-in_err-value-clause-none
returns-in_err-value-clause-none c =
    IfNone_from _ _
    (no_decimal c.args.text.now c.args.from c.args.to c.args.limit
    (λ e. c.if-byte-ne48.true (c.byte.ensures.byte ∙ e)) c.in_err-value.ensures.none)

pub returns-then-byte-ne48-clause-found : goal.returns-then-byte-ne48-clause-found
returns-then-byte-ne48-clause-found c =
    decimal _ (λ e. c.if-byte-ne48.true (c.byte.ensures.byte ∙ e)) c.in_ok-value.ensures.found

pub returns-in_err-value-2-clause-none : goal.returns-in_err-value-2-clause-none
returns-in_err-value-2-clause-none c =
    let h = c.begins_hex.ensures.hex c.if-begins_hex.true in
    IfNone_from _ _
    (no_hex_number c.args.text.now c.args.from c.args.to c.args.limit
    (sym c.byte.ensures.byte ∙ c.if-byte-ne48.false) h.0 h.1 c.in_err-value-2.ensures.none)

pub returns-then-begins_hex-clause-found : goal.returns-then-begins_hex-clause-found
returns-then-begins_hex-clause-found c =
    let h = c.begins_hex.ensures.hex c.if-begins_hex.true in
    hex _ (sym c.byte.ensures.byte ∙ c.if-byte-ne48.false) h.1 c.in_ok-value-2.ensures.found

pub returns-in_err-value-3-clause-none : goal.returns-in_err-value-3-clause-none
returns-in_err-value-3-clause-none c =
    IfNone_from _ _
    (no_octal_number c.args.text.now c.args.from c.args.to c.args.limit
    (sym c.byte.ensures.byte ∙ c.if-byte-ne48.false)
    (c.begins_hex.ensures.other c.if-begins_hex.false) c.in_err-value-3.ensures.none)

pub returns-clause-found : goal.returns-clause-found
returns-clause-found c =
    octal _ (sym c.byte.ensures.byte ∙ c.if-byte-ne48.false) c.in_ok-value-3.ensures.found
