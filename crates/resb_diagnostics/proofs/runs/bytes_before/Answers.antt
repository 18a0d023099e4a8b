-- That the byte stands there comes to naught, so the test of it is false.
use Rattle.std.proofs.lemmas.Bool.{ne_eqb}
use Rattle.resb_diagnostics.proofs.runs.bytes_before.Goals as goal

pub returns-clause-before : goal.returns-clause-before
returns-clause-before c = λ k low high. ne_eqb _ _ (c.bytes_before.ensures.before k low high)
