use Rattle.resb_walk.proofs.Spelling.{spells_two, spells_three}
use Rattle.std.proofs.Common.{arith}
use Rattle.resb_walk.proofs.units.spell.Goals as goal

pub returns-then-unit-lt2048-clause-text : goal.returns-then-unit-lt2048-clause-text
returns-then-unit-lt2048-clause-text c =
    spells_two c.args.spelled.now c.args.end c.args.unit c.requires (omega arith)
    c.if-unit-lt2048.true

pub returns-clause-text : goal.returns-clause-text
returns-clause-text c =
    spells_three c.args.spelled.now c.args.end c.args.unit c.requires (omega arith) (omega arith)
