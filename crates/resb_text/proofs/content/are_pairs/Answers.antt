use Rattle.std.proofs.Common.{sym, ap, ◌∙◌}
use Rattle.std.specs.List.{list_all}
use Rattle.resb_grammar.specs.Group.{is_hex}
use Rattle.resb_text.proofs.ContentLemmas.{even_paired, others_unpaired}
use Rattle.resb_text.proofs.content.are_pairs.Goals as goal

pub returns-then-are_digits : goal.returns-then-are_digits
returns-then-are_digits c =
    let same = ap (list_all is_hex) c.as_bytes.ensures.value in
    even_paired c.args.digits.now (sym same ∙ sym c.are_digits.ensures ∙ c.if-are_digits.true)

pub returns-else-are_digits : goal.returns-else-are_digits
returns-else-are_digits c =
    let same = ap (list_all is_hex) c.as_bytes.ensures.value in
    let none = sym same ∙ sym c.are_digits.ensures ∙ c.if-are_digits.false in
    rw c.if-are_digits.false (others_unpaired c.args.digits.now none)
