-- Tests of numbers: what they say, and where they hold.
use Rattle.std.proofs.Common.{Bool, None, Some, arith, false, if◌then◌else◌, inl, inr, nat_eq}
use Rattle.std.proofs.Common.{nat_le, refl, true, ℕ, ◌&&◌, ◌<◌, ◌||◌, ◌≡◌, ◌≤◌, ◌⊎◌}
use Rattle.std.proofs.lemmas.Bool.Decides.{nat_tests}
use Rattle.std.proofs.lemmas.Bool.{lt-leb, le-leb}

-- of two such tests one fails, or both hold
pub two_tests_fail : (a b c d : ℕ) → (b < a) ⊎ (d < c) → (nat_le a b && nat_le c d) ≡ false
two_tests_fail a b c d (inl h) = rw (lt-leb a b h) refl
two_tests_fail a b c d (inr h) = grind (arith, nat_tests)

pub two_tests_hold : (a b c d : ℕ) → a ≤ b → c ≤ d → (nat_le a b && nat_le c d) ≡ true
two_tests_hold a b c d h k = rw (le-leb a b h, le-leb c d k) refl

pub two_tests_tell : (a b c d : ℕ) → (nat_le a b && nat_le c d) ≡ true → (a ≤ b) × (c ≤ d)
two_tests_tell a b c d e = (grind (arith, nat_tests), grind (arith, nat_tests))

-- an optional word is there exactly where the count asks for it
pub no_field : (n x : ℕ) → (if nat_le 7 n then Some x else None) ≡ None → n < 7
no_field n x e = grind (arith, nat_tests)

pub some_field : (n v x : ℕ) → (if nat_le 7 n then Some v else None) ≡ Some x → (7 ≤ n) × (v ≡ x)
some_field n v x e = (grind (arith, nat_tests), grind (arith, nat_tests))

-- the number of an order of bytes, from whether it is big
pub not_big : (n : ℕ) (b : Bool) → n ≤ 1 → b ≡ nat_eq n 1 → b ≡ false → n ≡ 0
not_big n b h e f = grind (arith, nat_tests)

pub is_big : (n : ℕ) (b : Bool) → b ≡ nat_eq n 1 → b ≡ true → n ≡ 1
is_big n b e f = grind (arith, nat_tests)

-- a number is 0 where it may not be any, as the test says
pub zero_unless_any : (any : Bool) (n : ℕ) → (any || nat_eq n 0) ≡ true → any ≡ false → n ≡ 0
zero_unless_any true n h e = cc
zero_unless_any false n h e = grind (arith, nat_tests)

-- and where it is, the test says so
pub zero_or_any : (any : Bool) (n : ℕ) → (any ≡ false → n ≡ 0) → (any || nat_eq n 0) ≡ true
zero_or_any true n h = refl
zero_or_any false n h = rw (h refl) refl
