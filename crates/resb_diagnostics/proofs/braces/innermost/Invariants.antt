-- Mode, depth and what was found are those of the place.
use Rattle.std.proofs.Common.{◌≡◌, ◌≤◌}
use Rattle.resb_diagnostics.specs.Braces.{mode_in, depth_at, last_to}
use Rattle.resb_diagnostics.proofs.braces.innermost.Given as goal

abbrev pub invariant-bytes : goal.invariant-bytes
invariant-bytes g l =
    (l.mode ≡ mode_in g.M.Modes.form l.text l.at) × (l.depth ≡ depth_at g.M.Modes.form l.text l.at)
    × (l.depth ≤ l.at) × (l.found ≡ last_to g.M.Modes.form l.wanted l.text l.at)
