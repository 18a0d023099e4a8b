-- Mode, quote and what was found are those of the place.
use Rattle.std.proofs.Common.{◌≡◌}
use Rattle.resb_diagnostics.specs.Braces.{mode_in}
use Rattle.resb_diagnostics.specs.Clues.{quote_at, long_string_in}
use Rattle.resb_diagnostics.proofs.clues.long_string.Given as goal

abbrev pub invariant-bytes : goal.invariant-bytes
invariant-bytes g l =
    (l.mode ≡ mode_in g.M.Modes.form l.text l.at) × (l.quote ≡ quote_at g.M.Modes.form l.text l.at)
    × (l.found ≡ long_string_in g.M.Modes.form l.text l.at)
