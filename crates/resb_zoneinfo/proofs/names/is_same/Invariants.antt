use Rattle.std.proofs.Common.{ℕ, ◌≡◌, ◌<◌, get_or}
use Rattle.resb.specs.Views.{view_units}
use Rattle.resb_zoneinfo.proofs.names.is_same.Given as goal

-- the units so far are the bytes
abbrev pub invariant-loop-place : goal.invariant-loop-place
invariant-loop-place l =
    (k : ℕ) → k < l.place → get_or (view_units l.units) k 0 ≡ get_or l.bytes k 0
