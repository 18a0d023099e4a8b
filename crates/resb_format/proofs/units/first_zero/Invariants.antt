use Rattle.std.proofs.Common.{ℕ, ◌≡◌, ◌<◌, false, nat_eq, get_or}
use Rattle.resb_format.specs.Views.{view_units}
use Rattle.resb_format.proofs.units.first_zero.Given as goal

abbrev pub invariant-loop-number : goal.invariant-loop-number
invariant-loop-number l =
    (k : ℕ) → k < l.number → nat_eq (get_or (view_units l.units) k 0) 0 ≡ false
