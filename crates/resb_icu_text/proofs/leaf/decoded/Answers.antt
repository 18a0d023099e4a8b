use Rattle.std.proofs.Common.{ap, sym, ◌∙◌}
use Rattle.resb_grammar.specs.Group.{hex_bytes}
use Rattle.resb_icu_grammar.specs.Groups.{spaced_bytes}
use Rattle.resb_icu_text.proofs.RowLemmas.{row_digits, other_digits, of_one_part, some_said, ok_by}
use Rattle.resb_icu_text.proofs.leaf.decoded.Goals as goal

pub row_bytes-requires-clause-row : goal.row_bytes-requires-clause-row
row_bytes-requires-clause-row c =
    let is = c.requires.found in
    let r = row_digits c.args.text.now c.args.from c.args.found _ c.in-InRow.is is in
    let some = some_said (spaced_bytes is.said) (λ e. c.requires.pairs is (r.1 ∙ e)) in
    (is.said, r.0, some.0, some.1)

pub returns-in-InRow-clause-bytes : goal.returns-in-InRow-clause-bytes
returns-in-InRow-clause-bytes c =
    ok_by _ _ c.row_bytes.result (λ v h is.
    (let r = row_digits c.args.text.now c.args.from c.args.found _ c.in-InRow.is is in
    r.1 ∙ h is.said r.0)) c.row_bytes.ensures.bytes

pub unreachable-requires : goal.unreachable-requires
unreachable-requires c =
    let is = c.requires.found in
    let same = c.deref.ensures.value ∙ c.in_ok-digits.ensures.says.1 is in
    c.requires.pairs is (other_digits _ _ c.args.found c.in_default.not-InRow (of_one_part _ _ c.args.found is (c.requires.pairs is)) is
    ∙ sym (ap hex_bytes same) ∙ rw c.in-None.is at c.in_ok-bytes.ensures.none)

pub returns-clause-bytes : goal.returns-clause-bytes
returns-clause-bytes c = λ is.
    let same = c.deref.ensures.value ∙ c.in_ok-digits.ensures.says.1 is in
    other_digits _ _ c.args.found c.in_default.not-InRow (of_one_part _ _ c.args.found is (c.requires.pairs is)) is
    ∙ sym (ap hex_bytes same) ∙ rw c.in-Some.is at c.in_ok-bytes.ensures.found
