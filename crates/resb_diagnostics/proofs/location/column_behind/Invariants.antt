-- The column is that of the place, and no more than the bytes before it and 1.
use Rattle.std.proofs.Common.{◌≡◌, ◌≤◌, suc}
use Rattle.resb_diagnostics.specs.Location.{column_at}
use Rattle.resb_diagnostics.proofs.location.column_behind.Given as goal

abbrev pub invariant-bytes : goal.invariant-bytes
invariant-bytes l = (l.column ≡ column_at l.text l.at) × (l.column ≤ suc l.at)
