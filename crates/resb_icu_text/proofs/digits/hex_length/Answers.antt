use Rattle.std.proofs.Common.{arith, sym, ◌∙◌}
use Rattle.std.proofs.lemmas.Bool.{false≢true}
use Rattle.resb_icu_text.proofs.DigitsLemmas.{none_say, pairs_are, pairs_say}
use Rattle.resb_icu_text.proofs.RowLemmas.{other_digits, parts_none, row_digits, pairs_in_row}
use Rattle.resb_icu_text.proofs.digits.hex_length.Goals as goal

pub returns-in-InRow-clause-pairs : goal.returns-in-InRow-clause-pairs
returns-in-InRow-clause-pairs c =
    pairs_in_row c.args.text.now c.args.from c.args.found c.row_pairs.result
    (row_digits c.args.text.now c.args.from c.args.found _ c.in-InRow.is) c.row_pairs.ensures

pub returns-then-not-says_digits-clause-pairs : goal.returns-then-not-says_digits-clause-pairs
returns-then-not-says_digits-clause-pairs c = λ is.
    let alone = sym c.is_of_parts.ensures ∙ c.if-is_of_parts.false in
    other_digits _ _ c.args.found c.in_default.not-InRow alone is ∙ none_say is.said (λ bytes e.
    false≢true
    (sym c.if-not-says_digits.true ∙ c.says_digits.ensures is ∙ (pairs_are is.said bytes e).0))

pub returns-then-length-eq0-clause-pairs : goal.returns-then-length-eq0-clause-pairs
returns-then-length-eq0-clause-pairs c = λ is.
    let alone = sym c.is_of_parts.ensures ∙ c.if-is_of_parts.false in
    let p = pairs_say is.said _ (sym (c.says_digits.ensures is) ∙ c.if-not-says_digits.false)
    (omega (arith, is.counted, c.length-length.ensures)) in
    (p.0, other_digits _ _ c.args.found c.in_default.not-InRow alone is ∙ p.1, p.2)

pub returns-else-length-eq0-clause-pairs : goal.returns-else-length-eq0-clause-pairs
returns-else-length-eq0-clause-pairs c = λ is.
    let alone = sym c.is_of_parts.ensures ∙ c.if-is_of_parts.false in
    other_digits _ _ c.args.found c.in_default.not-InRow alone is ∙ none_say is.said (λ bytes e.
    let twice = (pairs_are is.said bytes e).1 in
    omega (arith, is.counted, twice, c.length-length.ensures))

pub returns-then-is_of_parts-clause-pairs : goal.returns-then-is_of_parts-clause-pairs
returns-then-is_of_parts-clause-pairs c = λ is.
    parts_none c.args.text.now c.args.from c.args.found
    (sym c.is_of_parts.ensures ∙ c.if-is_of_parts.true) is
