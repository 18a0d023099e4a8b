use Rattle.std.proofs.Common.{arith, sym, ◌∙◌}
use Rattle.resb_icu_text.specs.Inner.Reading.{no_brace}
use Rattle.resb_icu_text.proofs.reader.opening.Goals as goal

pub returns-then-byte-eq123-clause-reads : goal.returns-then-byte-eq123-clause-reads
returns-then-byte-eq123-clause-reads c = (
  record {
    typed = c.in_ok-brace.ensures.reads.0;
    opens = sym c.byte.ensures.byte ∙ c.if-byte-eq123.true;
  },
  c.byte.ensures.inside (omega (arith, c.if-byte-eq123.true)),
)

pub returns-else-byte-eq123-clause-reads : goal.returns-else-byte-eq123-clause-reads
returns-else-byte-eq123-clause-reads c =
    no_brace _ _ c.in_ok-brace.ensures.reads.0
    (λ e. c.if-byte-eq123.false (c.byte.ensures.byte ∙ e)) c.new.ensures
