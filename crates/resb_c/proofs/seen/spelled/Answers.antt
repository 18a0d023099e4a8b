use Rattle.std.proofs.Common.{arith}
use Rattle.resb_opened.proofs.Utf16Lemmas.{bytes_of_units}
use Rattle.resb_c.proofs.seen.spelled.Goals as goal

pub returns-clause-units : goal.returns-clause-units
returns-clause-units c =
    bytes_of_units c.args.bytes.now c.requires (λ k. omega (arith, c.type_inv.bytes k))
