-- The text was gone through up to the place.
use Rattle.std.proofs.Common.{◌-◌, length}
use Rattle.resb_diagnostics.specs.Inner.IcuTokens.{HasListed}
use Rattle.resb_diagnostics.proofs.icu_keys.repeated_icu_keys.Given as goal

abbrev pub invariant-tokens : goal.invariant-tokens
invariant-tokens l = HasListed l.keys l.text

abbrev pub decreases-tokens : goal.decreases-tokens
decreases-tokens l = length l.text - l.keys.walk.at
