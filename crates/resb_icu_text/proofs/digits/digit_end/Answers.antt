use Rattle.std.proofs.Common.{◌≡◌, sym, ◌∙◌, subst, ◌+◌}
use Rattle.std.specs.Prelude.{slice_index}
use Rattle.resb_icu_grammar.specs.Escapes.{Escape}
use Rattle.resb_icu_text.specs.Inner.Escaped.{bytes_of}
use Rattle.resb_icu_text.proofs.DigitsLemmas.{escaped_digit, escaped_none, escaped_itself}
use Rattle.resb_icu_text.proofs.DigitsLemmas.{hex_encoded, escaped_other}
use Rattle.resb_icu_text.proofs.digits.digit_end.Goals as goal

pub returns-then-is_hex-2-clause-digit : goal.returns-then-is_hex-2-clause-digit
returns-then-is_hex-2-clause-digit c = λ last bytes.
    let text = c.args.text.now in
    let found = subst (λ o. Escape text (c.args.at + 1) c.in_ok-to.to
    (bytes_of (slice_index text (c.args.at + 1)) o)) c.in-Some.is c.in_ok-to.ensures.found in
    escaped_digit _ last bytes _ _ (sym c.byte-b.ensures.byte ∙ c.if-b-ne92.false) found
    (sym c.is_hex-in-Some.ensures ∙ c.if-is_hex-2.true)

pub returns-else-is_hex-2-clause-none : goal.returns-else-is_hex-2-clause-none
returns-else-is_hex-2-clause-none c = λ last bytes.
    let text = c.args.text.now in
    let found = subst (λ o. Escape text (c.args.at + 1) c.in_ok-to.to
    (bytes_of (slice_index text (c.args.at + 1)) o)) c.in-Some.is c.in_ok-to.ensures.found in
    escaped_none _ last bytes _ _ (sym c.byte-b.ensures.byte ∙ c.if-b-ne92.false) found
    (hex_encoded _ (sym c.is_hex-in-Some.ensures ∙ c.if-is_hex-2.false))

pub returns-then-is_hex-3-clause-digit : goal.returns-then-is_hex-3-clause-digit
returns-then-is_hex-3-clause-digit c = λ last bytes.
    let text = c.args.text.now in
    let found = subst (λ o. Escape text (c.args.at + 1) c.in_ok-to.to
    (bytes_of (slice_index text (c.args.at + 1)) o)) c.in-None.is c.in_ok-to.ensures.found in
    escaped_itself _ last bytes _ _ (sym c.byte-b.ensures.byte ∙ c.if-b-ne92.false) found
    c.byte.ensures.byte (sym c.is_hex-in-None.ensures ∙ c.if-is_hex-3.true)

pub returns-else-is_hex-3-clause-none : goal.returns-else-is_hex-3-clause-none
returns-else-is_hex-3-clause-none c = λ last bytes.
    let text = c.args.text.now in
    let found = subst (λ o. Escape text (c.args.at + 1) c.in_ok-to.to
    (bytes_of (slice_index text (c.args.at + 1)) o)) c.in-None.is c.in_ok-to.ensures.found in
    escaped_other _ last bytes _ _ (sym c.byte-b.ensures.byte ∙ c.if-b-ne92.false) found
    c.byte.ensures.byte (sym c.is_hex-in-None.ensures ∙ c.if-is_hex-3.false)
