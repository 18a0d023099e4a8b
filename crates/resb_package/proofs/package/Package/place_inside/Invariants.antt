use Rattle.std.proofs.Common.{◌≡◌, ℕ, ◌*◌, ◌<◌}
use Rattle.resb_package.specs.Checks.{HasHead}
use Rattle.resb_package.proofs.package.Package.place_inside.Given as goal

abbrev pub invariant-places : goal.invariant-places
invariant-places l = (k : ℕ) → k < l.number → HasHead l.bytes (16 * k) → ⊥
