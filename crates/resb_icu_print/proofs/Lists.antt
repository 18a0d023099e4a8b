-- Numbers and Booleans: what names no word of this project.
use Rattle.std.proofs.Common.{◌≡◌, ℕ, Bool, true, false, refl, sym, arith}
use Rattle.std.specs.Prelude.{not, ◌||◌, ◌==◌}
use Rattle.std.proofs.lemmas.Bool.{false≢true}
use Rattle.std.proofs.lemmas.Bool.Decides.{nat_tests}

-- where it is not so that the first fails or the second holds, the first holds and the second
-- fails
pub and_not_parts : (a b : Bool) → not (not a || b) ≡ true → (a ≡ true) × (not b ≡ true)
and_not_parts true b h = (refl, h)
and_not_parts false b h = absurd (false≢true h)

-- what doesn't hold is false, and what doesn't fail is true
pub false_from_not : (b : Bool) → not b ≡ true → b ≡ false
false_from_not true e = absurd (false≢true e)
false_from_not false e = refl

pub true_from_not : (b : Bool) → not b ≡ false → b ≡ true
true_from_not true e = refl
true_from_not false e = absurd (false≢true (sym e))

-- two numbers that differ don't compare as equal
pub unequal_to : (b n : ℕ) → (b ≡ n → ⊥) → (b == n) ≡ false
unequal_to b n h = by (b == n) refl
  where
    by : (t : Bool) → (b == n) ≡ t → (b == n) ≡ false
    by false e = e
    by true e = let f : b ≡ n = grind (arith, nat_tests) in absurd (h f)
