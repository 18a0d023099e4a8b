use Rattle.std.proofs.Common.{sym, ◌∙◌, refl}
use Rattle.resb_icu_text.specs.Inner.Reading.{no_colon, a_type, no_type}
use Rattle.resb_icu_text.proofs.reader.typing.Goals as goal

pub returns-then-byte-ne58-clause-reads : goal.returns-then-byte-ne58-clause-reads
returns-then-byte-ne58-clause-reads c =
    (no_colon (λ e. c.if-byte-ne58.true (c.byte.ensures.byte ∙ e)) refl, c.requires.within)

pub returns-in-Some-clause-reads : goal.returns-in-Some-clause-reads
returns-in-Some-clause-reads c =
    (a_type _ _ c.in-Some.ensures.found c.skip.ensures.skip, c.skip.ensures.fits)

pub returns-in-None-clause-reads : goal.returns-in-None-clause-reads
returns-in-None-clause-reads c =
    no_type (sym c.byte.ensures.byte ∙ c.if-byte-ne58.false) c.in-None.ensures.none c.new.ensures
