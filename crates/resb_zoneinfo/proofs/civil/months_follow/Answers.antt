use Rattle.std.proofs.Common.{◌≡◌, ◌<◌, ◌+◌, ℕ, zero, suc, arith}
use Rattle.std.proofs.lemmas.Grind.{common_steps}
use Rattle.resb_zoneinfo.specs.Civil as civil
use Rattle.resb_zoneinfo.proofs.civil.months_follow.Goals as goal

-- each month begins behind the one before
next_month : (y m : ℕ) → m < 11
    → civil.month_start y (m + 1) ≡ civil.month_start y m + civil.month_length y m
next_month y zero h = grind (arith, common_steps)
next_month y (suc zero) h = grind (arith, common_steps)
next_month y (suc (suc zero)) h = grind (arith, common_steps)
next_month y (suc (suc (suc zero))) h = grind (arith, common_steps)
next_month y (suc (suc (suc (suc zero)))) h = grind (arith, common_steps)
next_month y (suc (suc (suc (suc (suc zero))))) h = grind (arith, common_steps)
next_month y (suc (suc (suc (suc (suc (suc zero)))))) h = grind (arith, common_steps)
next_month y (suc (suc (suc (suc (suc (suc (suc zero))))))) h = grind (arith, common_steps)
next_month y (suc (suc (suc (suc (suc (suc (suc (suc zero)))))))) h = grind (arith, common_steps)
next_month y (suc (suc (suc (suc (suc (suc (suc (suc (suc zero))))))))) h =
    grind (arith, common_steps)
next_month y (suc (suc (suc (suc (suc (suc (suc (suc (suc (suc zero)))))))))) h =
    grind (arith, common_steps)
next_month y (suc (suc (suc (suc (suc (suc (suc (suc (suc (suc (suc m))))))))))) h = omega arith

-- the next year begins behind December
next_year : (y : ℕ) → civil.month_start y 11 + 31 ≡ civil.year_start (y + 1)
next_year y = grind (arith, common_steps)

pub returns : goal.returns
returns c = λ y. (grind (arith, common_steps), next_month y, next_year y)
