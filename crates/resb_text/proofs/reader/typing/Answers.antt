use Rattle.std.proofs.Common.{refl, sym, ◌∙◌, arith}
use Rattle.resb_grammar.specs.BundleText.{without, with}
use Rattle.resb_text.proofs.HeaderReading.{no_root_type}
use Rattle.resb_text.proofs.reader.typing.Goals as goal

pub returns-then-byte-ne58-clause-reads : goal.returns-then-byte-ne58-clause-reads
returns-then-byte-ne58-clause-reads c =
    (without refl, λ same colon. c.if-byte-ne58.true (c.byte.ensures.byte ∙ colon))

pub returns-in-Some-clause-reads : goal.returns-in-Some-clause-reads
returns-in-Some-clause-reads c = (
  with _ _ c.in-Some.ensures.found c.skip.ensures.skip,
  λ same. absurd (omega (arith, same, c.in-Some.ensures.cost, c.skip.ensures.cost)),
)

pub returns-in-None-clause-reads : goal.returns-in-None-clause-reads
returns-in-None-clause-reads c =
    rw c.new.ensures (no_root_type _ _ (sym c.byte.ensures.byte ∙ c.if-byte-ne58.false)
    c.in-None.ensures.found)
