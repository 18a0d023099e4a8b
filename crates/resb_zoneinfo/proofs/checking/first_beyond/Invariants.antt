use Rattle.std.proofs.Common.{ℕ, ◌<◌, get_or}
use Rattle.resb_zoneinfo.proofs.checking.first_beyond.Given as goal

-- the types so far are below the limit
abbrev pub invariant-loop-place : goal.invariant-loop-place
invariant-loop-place l = (k : ℕ) → k < l.place → get_or l.types k 0 < l.limit
