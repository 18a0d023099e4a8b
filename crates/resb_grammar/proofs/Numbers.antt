-- Numbers, and tests and orders of them: what names no word of this project.
use Rattle.std.proofs.Common.{◌≡◌, ℕ, ◌+◌, arith, ◌≢◌, Bool, true, false, refl}
use Rattle.std.specs.Prelude.{◌==◌}
use Rattle.std.proofs.lemmas.Bool.Decides.{nat_tests}
use Rattle.std.proofs.Common.{◌⊎◌, inl, inr}
use Rattle.std.specs.Prelude.{◌||◌}
use Rattle.std.proofs.Common.{◌<◌, ◌≤◌, ⊎_elim}
use Rattle.std.proofs.lemmas.Bool.{cases_lt}

-- a number and nothing more
pub plus_no_bytes : (n : ℕ) → n ≡ n + 0
plus_no_bytes n = omega arith

-- a byte is this one or another
pub either_byte : {P : Type 0} (b n : ℕ) → (b ≡ n → P) → (b ≢ n → P) → P
either_byte {P = P} b n p q = cases (b == n) refl
  where
    cases : (c : Bool) → (b == n) ≡ c → P
    cases true e = let h : b ≡ n = grind (arith, nat_tests) in p h
    cases false e = let h : b ≢ n = grind (arith, nat_tests) in q h

-- where one of two holds, the first or the second does
pub one_of_or : (a b : Bool) → (a || b) ≡ true → (a ≡ true) ⊎ (b ≡ true)
one_of_or true b h = inl refl
one_of_or false b h = inr h

-- two places are equal if neither is below the other
pub places_meet : (a b : ℕ) → (a < b → ⊥) → (b < a → ⊥) → a ≡ b
places_meet a b p q =
    ⊎_elim (λ (w : a < b). absurd (p w)) (λ (w : b ≤ a). ⊎_elim (λ (v : b < a). absurd (q v))
    (λ (v : a ≤ b). omega arith) (cases_lt b a)) (cases_lt a b)
