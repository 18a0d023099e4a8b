-- The text was read up to the place.
use Rattle.std.proofs.Common.{◌-◌, length}
use Rattle.resb_diagnostics.specs.Inner.Tokens.{HasScanned}
use Rattle.resb_diagnostics.proofs.warning.warnings.Given as goal

abbrev pub invariant-tokens : goal.invariant-tokens
invariant-tokens l = HasScanned l.scan l.text

abbrev pub decreases-tokens : goal.decreases-tokens
decreases-tokens l = length l.text - l.scan.at
