use Rattle.std.proofs.Common.{rules}
use Rattle.resb_walk.proofs.Counted.{no_units_no_text}
use Rattle.resb_read.proofs.texts.described_text.Goals as goal

pub returns-in-StringV2-clause-stands : goal.returns-in-StringV2-clause-stands
returns-in-StringV2-clause-stands c = rw no_units_no_text (search rules)
