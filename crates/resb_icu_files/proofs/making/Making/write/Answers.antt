-- A group's braces are ASCII.
use Rattle.std.proofs.Common.{arith}
use Rattle.std.proofs.lemmas.Str.{IsCharBoundary-after_ascii}
use Rattle.resb_icu_files.proofs.making.Making.write.Goals as goal

pub range-inside-requires-clause-start_boundary : goal.range-inside-requires-clause-start_boundary
range-inside-requires-clause-start_boundary c =
    let g = c.requires in
    λ _. IsCharBoundary-after_ascii c.args.text.now c.args.group.now.brace c.utf8.text
    (omega (arith, g.inside, g.fits)) (omega (arith, g.stands.opens))
