use Rattle.std.proofs.Common.{◌∙◌, sym, arith}
use Rattle.resb_read.proofs.Backwards.{none_named_behind, last_unnamed, found}
use Rattle.resb_read.proofs.tables.last_near.Goals as goal

pub entries-init : goal.entries-init
entries-init c =
    let h = c.min-left.ensures in (
      omega (arith, h),
      omega (arith, h),
      none_named_behind c.args.name.now c.args.file c.args.positions.now c.args.words.now
          c.min-left.result (omega (arith, h)),
    )

pub returns-then-is_key : goal.returns-then-is_key
returns-then-is_key c =
    let (inside, within, rest) = c.entries.invariant in
    found c.args.name.now c.args.file c.args.positions.now c.args.words.now c.entries.left
    c.from.result c.entries-test.true inside within rest (c.from.ensures ∙ c.unit_at.ensures)
    c.word_at.result c.word_at.ensures (sym c.is_key.ensures ∙ c.if-is_key.true)

pub entries-preserved : goal.entries-preserved
entries-preserved c =
    let (inside, within, rest) = c.entries.invariant in (
      omega (arith, inside),
      omega (arith, within),
      last_unnamed c.args.name.now c.args.file c.args.positions.now c.args.words.now c.entries.left
          c.from.result c.entries-test.true inside within rest (c.from.ensures ∙ c.unit_at.ensures)
          (sym c.is_key.ensures ∙ c.if-is_key.false),
    )
