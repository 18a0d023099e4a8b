use Rattle.std.proofs.Common.{arith}
use Rattle.resb_read.proofs.UnitsBack.{units_back}
use Rattle.resb_read.proofs.texts.whole_units.Goals as goal

pub returns-clause-written : goal.returns-clause-written
returns-clause-written c =
    units_back c.args.bytes.now c.requires (λ k. omega (arith, c.type_inv.bytes k))
