use Rattle.std.proofs.Common.{◌-◌, ◌++◌, ◌∷◌, [], ◌∙◌, ap, get_or, arith}
use Rattle.resb_layout.specs.Laid.{short_by}
use Rattle.resb_write.specs.Inner.Lending.{lent_of}
use Rattle.resb_write.proofs.Each.{short_at, offsets_more}
use Rattle.resb_write.proofs.resource_bodies.put_offsets.Goals as goal

pub overflow_cast-short : goal.overflow_cast-short
overflow_cast-short c =
    omega (
      arith,
      c.short.ensures,
      ap (short_by (lent_of c.args.lent)) (c.saturating_sub.ensures
          ∙ ap (λ k. get_or c.args.words.now c.loop-word.word-index 0 - k)
          c.first_string_word-first.ensures),
      (short_at (lent_of c.args.lent) c.args.words.now c.loop-word.word-index c.requires
          c.loop-word-test.true).short,
    )

pub loop-word-preserved : goal.loop-word-preserved
loop-word-preserved c =
    let us = c.args.units.now.items in
    let ws = c.args.words.now in
    let i = c.loop-word.word-index in
    let told = short_by (lent_of c.args.lent) in
    c.in_ok-push.ensures.items
    ∙ ap (λ k. c.loop-word.units.items ++ k ∷ []) (c.short.ensures
    ∙ ap told (c.saturating_sub.ensures
    ∙ ap (λ k. get_or ws i 0 - k) c.first_string_word-first.ensures))
    ∙ ap (λ l. l ++ told (get_or ws i 0 - 0x6000_0000) ∷ []) c.loop-word.invariant
    ∙ offsets_more (lent_of c.args.lent) us ws i c.loop-word-test.true
