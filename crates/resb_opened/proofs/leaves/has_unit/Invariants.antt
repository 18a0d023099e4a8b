use Rattle.std.proofs.Common.{ℕ, ◌≡◌, ◌<◌, false, nat_eq, get_or}
use Rattle.resb_format.specs.Bytes.{units_of}
use Rattle.resb_opened.proofs.leaves.has_unit.Given as goal

abbrev pub invariant-loop-number : goal.invariant-loop-number
invariant-loop-number l =
    (k : ℕ) → k < l.number → nat_eq (get_or (units_of l.units) k 0) l.character ≡ false
