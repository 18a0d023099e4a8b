-- Units of UTF-16 and their characters, as the standard library has them.
use Rattle.std.proofs.Common.{ℕ, ◌≡◌, false, arith, Some, true, None, List, [], ◌∷◌, refl}
use Rattle.std.proofs.lemmas.Bool.Decides.{nat_tests}
use Rattle.std.specs.Char.Utf16.{is_high_surrogate, is_low_surrogate, lone_unit_char, utf16_chars}
use Rattle.std.specs.Char.Utf16.{has_unpaired_surrogate, utf16_lossy_chars, surrogate_pair_char}

-- a unit that is no half of a pair is a character
pub lone_some : (u : ℕ) → is_high_surrogate u ≡ false → is_low_surrogate u ≡ false
    → lone_unit_char u ≡ Some u
lone_some u h l = grind (arith, nat_tests, h, l)

-- a second half of a pair alone is no character
pub low_none : (u : ℕ) → is_low_surrogate u ≡ true → lone_unit_char u ≡ None
low_none u l = grind (arith, nat_tests, l)

-- a first half of a pair alone is no character
pub high_none : (u : ℕ) → is_high_surrogate u ≡ true → lone_unit_char u ≡ None
high_none u h = grind (arith, nat_tests, h)

-- a second half of a pair is no first half
pub low_is_not_high : (u : ℕ) → is_low_surrogate u ≡ true → is_high_surrogate u ≡ false
low_is_not_high u l = grind (arith, nat_tests, l)

-- before other units, one that is no half of a pair changes nothing
pub plain_first : (u : ℕ) (us : List ℕ) → is_high_surrogate u ≡ false
    → is_low_surrogate u ≡ false → has_unpaired_surrogate (u ∷ us) ≡ has_unpaired_surrogate us
unfolding utf16_chars
plain_first u [] h l = rw (lone_some u h l) refl
plain_first u (v ∷ us) h l = rw (h, lone_some u h l) refl

-- before other units, a pair changes nothing
pub pair_first : (u v : ℕ) (us : List ℕ) → is_high_surrogate u ≡ true → is_low_surrogate v ≡ true
    → has_unpaired_surrogate (u ∷ v ∷ us) ≡ has_unpaired_surrogate us
unfolding utf16_chars
pair_first u v us h l = rw (h, l) refl

-- no units are well formed
pub empty_is_paired : has_unpaired_surrogate [] ≡ false
unfolding utf16_chars
empty_is_paired = refl

-- a first half before a unit that is no second half is alone
pub high_alone : (u v : ℕ) (us : List ℕ) → is_high_surrogate u ≡ true → is_low_surrogate v ≡ false
    → has_unpaired_surrogate (u ∷ v ∷ us) ≡ true
unfolding utf16_chars
high_alone u v us h l = rw (h, l, high_none u h) refl

-- a second half in front is alone
pub low_first : (u : ℕ) (us : List ℕ) → is_low_surrogate u ≡ true
    → has_unpaired_surrogate (u ∷ us) ≡ true
unfolding utf16_chars
low_first u [] l = rw (low_none u l) refl
low_first u (v ∷ us) l = rw (low_is_not_high u l, low_none u l) refl

-- a first half at the end is alone
pub high_last : (u : ℕ) → is_high_surrogate u ≡ true → has_unpaired_surrogate (u ∷ []) ≡ true
unfolding utf16_chars
high_last u h = rw (high_none u h) refl

-- a unit that is no half of a pair is a character before the others
pub plain_chars : (u : ℕ) (us : List ℕ) → is_high_surrogate u ≡ false → is_low_surrogate u ≡ false
    → utf16_lossy_chars (u ∷ us) ≡ u ∷ utf16_lossy_chars us
unfolding utf16_chars
plain_chars u [] h l = rw (lone_some u h l) refl
plain_chars u (v ∷ us) h l = rw (h, lone_some u h l) refl

-- a pair is a character before the others
pub pair_chars : (u v : ℕ) (us : List ℕ) → is_high_surrogate u ≡ true → is_low_surrogate v ≡ true
    → utf16_lossy_chars (u ∷ v ∷ us) ≡ surrogate_pair_char u v ∷ utf16_lossy_chars us
unfolding utf16_chars
pair_chars u v us h l = rw (h, l) refl
