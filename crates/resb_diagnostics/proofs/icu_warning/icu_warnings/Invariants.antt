-- The front of the text was looked at up to the place.
use Rattle.std.proofs.Common.{◌-◌, length}
use Rattle.resb_diagnostics.specs.Inner.IcuTokens.{HasLooked}
use Rattle.resb_diagnostics.proofs.icu_warning.icu_warnings.Given as goal

abbrev pub invariant-tokens : goal.invariant-tokens
invariant-tokens l = HasLooked l.look l.front

abbrev pub decreases-tokens : goal.decreases-tokens
decreases-tokens l = length l.front - l.look.walk.at
