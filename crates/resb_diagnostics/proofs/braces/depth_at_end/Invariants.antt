-- Mode and depth are those of the place, and no more braces are open than bytes were passed.
use Rattle.std.proofs.Common.{◌≡◌, ◌≤◌}
use Rattle.resb_diagnostics.specs.Braces.{mode_in, depth_at}
use Rattle.resb_diagnostics.proofs.braces.depth_at_end.Given as goal

abbrev pub invariant-bytes : goal.invariant-bytes
invariant-bytes g l =
    (l.mode ≡ mode_in g.M.Modes.form l.text l.at) × (l.depth ≡ depth_at g.M.Modes.form l.text l.at)
    × (l.depth ≤ l.at)
