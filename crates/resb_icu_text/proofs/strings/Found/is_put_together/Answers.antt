use Rattle.std.proofs.Common.{sym, ◌∙◌}
use Rattle.resb_icu_text.proofs.RowLemmas.{unquoted_together, parts_joined, quoted_together}
use Rattle.resb_icu_text.proofs.strings.Found.is_put_together.Goals as goal

pub returns-then-is_of_parts : goal.returns-then-is_of_parts
returns-then-is_of_parts c = λ is.
    sym (parts_joined _ _ _ (sym c.is_of_parts.ensures ∙ c.if-is_of_parts.true) is)

pub returns-then-byte-eq34 : goal.returns-then-byte-eq34
returns-then-byte-eq34 c = λ is.
    sym (quoted_together _ _ _ (sym c.is_of_parts.ensures ∙ c.if-is_of_parts.false) is
    (sym c.byte.ensures.byte ∙ c.if-byte-eq34.true) _ c.length.ensures)

pub returns-in-InRow : goal.returns-in-InRow
returns-in-InRow c = λ is. sym (unquoted_together _ _ _ _ c.in-InRow.is
    (sym c.is_of_parts.ensures ∙ c.if-is_of_parts.false) is
    (λ e. c.if-byte-eq34.false (c.byte.ensures.byte ∙ e)))

pub returns-in-InPieces : goal.returns-in-InPieces
returns-in-InPieces c = λ is. sym (unquoted_together _ _ _ _ c.in-InPieces.is
    (sym c.is_of_parts.ensures ∙ c.if-is_of_parts.false) is
    (λ e. c.if-byte-eq34.false (c.byte.ensures.byte ∙ e)))

pub returns-in-InParts : goal.returns-in-InParts
returns-in-InParts c = λ is. sym (unquoted_together _ _ _ _ c.in-InParts.is
    (sym c.is_of_parts.ensures ∙ c.if-is_of_parts.false) is
    (λ e. c.if-byte-eq34.false (c.byte.ensures.byte ∙ e)))

pub returns-in-Whole : goal.returns-in-Whole
returns-in-Whole c = λ is. sym (unquoted_together _ _ _ _ c.in-Whole.is
    (sym c.is_of_parts.ensures ∙ c.if-is_of_parts.false) is
    (λ e. c.if-byte-eq34.false (c.byte.ensures.byte ∙ e)))
