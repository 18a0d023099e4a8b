use Rattle.std.proofs.Common.{ℕ, ◌<◌, get_or}
use Rattle.resb_walk.proofs.standing.plain_key.Given as goal

abbrev pub invariant-bytes : goal.invariant-bytes
invariant-bytes l =
    (k : ℕ) → k < l.count → (0 < get_or l.tail k 0) × (get_or l.tail k 0 < 128)
