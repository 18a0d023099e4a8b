-- Numbers, and tests and orders of them: what names no word of this project.
use Rattle.std.proofs.Common.{◌≡◌, ℕ, ◌+◌, ◌*◌, ◌/◌, ◌%◌, ◌<◌, arith, Bool, true, false, ◌-◌}
use Rattle.std.proofs.Common.{Option, Some, ◌∙◌, ap}

-- a number of 32 bits is put together from its four bytes
pub four_bytes : (w : ℕ) → w < 4294967296
    → w % 256 + 256 * (w / 256 % 256) + 65536 * (w / 65536 % 256)
    + 16777216 * (w / 16777216 % 256) ≡ w
four_bytes w h = omega arith

-- no positive number is 0
pub zero_not_positive : {n : ℕ} → 0 < n → n ≡ 0 → ⊥
zero_not_positive h e = omega (arith, h, e)

-- two numbers that are a quarter of one number are equal
pub one_quarter : (n at at' : ℕ) → n ≡ 4 * at → n ≡ 4 * at' → at ≡ at'
one_quarter n at at' a b = omega (arith, a, b)

-- nothing is both true and false
pub not_both : {A : Type 0} (b : Bool) → b ≡ true → b ≡ false → A
not_both b t f = cc

-- a number is what is left of it and a base, without the base
pub some_with : (o : Option ℕ) (k : ℕ) → o ≡ Some k → o ≡ Some (0x6000_0000 + k - 0x6000_0000)
some_with o k e = let f : k ≡ 0x6000_0000 + k - 0x6000_0000 = omega arith in e ∙ ap Some f
