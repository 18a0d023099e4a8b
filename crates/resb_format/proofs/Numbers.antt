-- Numbers, and tests and orders of them: what names no word of this project.
use Rattle.std.specs.Prelude.{◌^◌}
use Rattle.std.proofs.Common.{arith, ℕ, ◌≡◌, ◌+◌, ◌*◌, ◌/◌, ◌%◌, ◌<◌, zero, suc, [], ◌∷◌, refl}
use Rattle.std.proofs.Common.{get_or}
use Rattle.std.specs.Int.{to_le_bytes, w32}
use Rattle.std.proofs.lemmas.Nat.{le_bytes_4}

-- a number below 2^28 and what stands above its bits, apart again
pub parts_apart : (a b c d : ℕ) → b < 2 ^ 28 → d < 2 ^ 28 → a * 2 ^ 28 + b ≡ c * 2 ^ 28 + d
    → (a ≡ c) × (b ≡ d)
parts_apart a b c d h g e = (omega arith, omega arith)

-- what stands above the low 28 bits
pub upper_bits : (a b : ℕ) → b < 2 ^ 28 → (a * 2 ^ 28 + b) / 2 ^ 28 ≡ a
upper_bits a b h = omega arith

-- a number from its two bytes
pub two_bytes : (n : ℕ) → n < 65536 → n % 256 + 256 * (n / 256 % 256) ≡ n
two_bytes n h = omega arith

-- four bytes, put together and taken apart
pub four_back : (a b c d : ℕ) → a < 256 → b < 256 → c < 256 → d < 256
    → to_le_bytes w32 (a + 256 * b + 65536 * c + 16777216 * d) ≡ a ∷ b ∷ c ∷ d ∷ []
four_back a b c d h i j k =
    le_bytes_4 (a ∷ b ∷ c ∷ d ∷ []) (a + 256 * b + 65536 * c + 16777216 * d) refl each (omega arith)
  where
    each : (n : ℕ) → get_or (a ∷ b ∷ c ∷ d ∷ []) n 0 < 256
    each zero = h
    each (suc zero) = i
    each (suc (suc zero)) = j
    each (suc (suc (suc zero))) = k
    each (suc (suc (suc (suc n)))) = omega arith
