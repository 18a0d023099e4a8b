use Rattle.std.proofs.Common.{ℕ, ◌<◌, get_or}
use Rattle.resb_format.specs.Bytes.{units_of}
use Rattle.resb_walk.proofs.standing.plain_text.Given as goal

abbrev pub invariant-units : goal.invariant-units
invariant-units l =
    (k : ℕ) → k < l.count
    → (0 < get_or (units_of l.from) k 0) × (get_or (units_of l.from) k 0 < 0xd800)
