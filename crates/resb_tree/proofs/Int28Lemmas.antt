-- Numbers of 28 bits, read without and with a sign.
use Rattle.std.proofs.Common.{◌≡◌, ℕ, ◌^◌, ◌<◌, ◌%◌, arith}
use Rattle.std.specs.Int.{cast_unsigned, w32}
use Rattle.std.proofs.lemmas.Int.{ints}
use Rattle.resb_tree.specs.Int28.{signed}

-- a 28-bit number is kept by its signed reading
pub signed_back : (n : ℕ) → n < 2 ^ 28 → cast_unsigned w32 (signed n) % 2 ^ 28 ≡ n
signed_back n h = grind (arith, ints)
