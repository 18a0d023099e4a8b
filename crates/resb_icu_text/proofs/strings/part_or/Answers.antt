use Rattle.resb_icu_text.specs.Inner.Found.{IsPart}
use Rattle.resb_icu_text.specs.Inner.Ahead.{in_pieces, nothing}
use Rattle.std.proofs.Common.{◌∙◌}
use Rattle.resb_icu_text.proofs.QuotaLemmas.{match_by}
use Rattle.resb_icu_text.proofs.strings.part_or.Goals as goal

pub returns-in-None-clause-reads : goal.returns-in-None-clause-reads
returns-in-None-clause-reads c =
    nothing (λ e. c.if-byte-eq34.false (c.byte.ensures.byte ∙ e)) c.in-None.ensures.reads
    c.new.ensures

pub returns-then-byte-eq34-clause-reads : goal.returns-then-byte-eq34-clause-reads
returns-then-byte-eq34-clause-reads c =
    match_by (IsPart c.args.text.now c.args.from) _ _ _ c.quoted.result (λ f is. is)
    (λ e h. in_pieces h) c.quoted.ensures.reads
