use Rattle.std.proofs.Common.{arith, sym, ◌∙◌}
use Rattle.resb_icu_text.proofs.RowLemmas.{made_joined, made_alone}
use Rattle.resb_icu_text.proofs.strings.Found.bytes_made.Goals as goal

pub returns-then-is_put_together-clause-made : goal.returns-then-is_put_together-clause-made
returns-then-is_put_together-clause-made c = λ s p.
    let is = c.requires.found in
    let together = sym (c.is_put_together.ensures is) ∙ c.if-is_put_together.true in
    let made = made_joined _ _ _ s is.said p is.string together in
    omega (
      arith,
      made.0,
      made.1,
      is.counted,
      c.length.ensures,
      c.length-then-is_put_together.ensures,
      c.text_bytes-bytes.ensures,
    )

pub returns-else-is_put_together-clause-made : goal.returns-else-is_put_together-clause-made
returns-else-is_put_together-clause-made c = λ s p.
    let is = c.requires.found in
    let together = sym (c.is_put_together.ensures is) ∙ c.if-is_put_together.false in
    let made = made_alone _ _ _ s is.said p is.string together in
    omega (
      arith,
      made.0,
      made.1,
      is.counted,
      c.length.ensures,
      c.text_bytes-bytes.ensures,
    )
