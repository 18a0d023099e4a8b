-- Line and column are those of the place up to which the text was looked at.
use Rattle.std.proofs.Common.{◌≡◌, ◌≤◌, ◌-◌, suc}
use Rattle.resb_diagnostics.specs.Location.{line_at, column_at}
use Rattle.resb_diagnostics.proofs.location.location_behind.Given as goal

abbrev pub invariant-feeds : goal.invariant-feeds
invariant-feeds l =
    (l.start ≤ l.place) × (l.line ≡ line_at l.text l.start)
    × (l.column ≡ column_at l.text l.start) × (l.line ≤ suc l.start)

abbrev pub decreases-feeds : goal.decreases-feeds
decreases-feeds l = l.place - l.start
