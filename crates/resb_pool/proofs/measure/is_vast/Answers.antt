use Rattle.std.proofs.Common.{◌≡◌, ◌<◌, ◌≤◌, ℕ, length, nat_le, arith}
use Rattle.std.proofs.lemmas.Bool.Decides.{nat_tests}
use Rattle.resb_format.specs.Units.{units}
use Rattle.resb_format.proofs.TextUnits.{units_within}
use Rattle.resb_pool.proofs.measure.is_vast.Goals as goal

both_below : (m n : ℕ) → m < 268435456 → n ≤ m → nat_le 268435456 m ≡ nat_le 268435456 n
both_below m n l h = grind (arith, nat_tests)

pub returns-else-text-ge-SIZE_LIMIT : goal.returns-else-text-ge-SIZE_LIMIT
returns-else-text-ge-SIZE_LIMIT c =
    both_below (length c.args.text.now) (length (units c.args.text.now))
    (omega (arith, c.if-text-ge-SIZE_LIMIT.false)) (units_within c.args.text.now c.utf8.text)
