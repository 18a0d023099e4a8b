use Rattle.std.proofs.Common.{sym, ◌∙◌}
use Rattle.resb_icu_text.proofs.EscapesLemmas.{half_short, half_no_short, half_long, half_no_long}
use Rattle.resb_icu_text.proofs.EscapesLemmas.{half_of_other}
use Rattle.resb_icu_text.proofs.escapes.says_half.Goals as goal

pub returns-else-b-eq85 : goal.returns-else-b-eq85
returns-else-b-eq85 c =
    half_of_other c.args.text.now c.args.at (λ e. c.if-b-eq117.false (c.byte-b.ensures.byte ∙ e))
    (λ e. c.if-b-eq85.false (c.byte-b.ensures.byte ∙ e))
