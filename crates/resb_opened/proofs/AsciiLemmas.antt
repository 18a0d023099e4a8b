-- A character of ASCII in a text is a byte of its own, and a unit of its own in UTF-16.
use Rattle.std.proofs.Common.{◌≡◌, ◌≤◌, ◌<◌, ◌⊎◌, inl, inr, ℕ, suc, List, [], ◌∷◌, Bool}
use Rattle.std.proofs.Common.{true, false, ◌&&◌, length, get_or, nat_eq, refl, sym, ◌∙◌}
use Rattle.std.proofs.Common.{arith, append-nil, encode_utf8_all, unwrap_or, ◌/◌}
use Rattle.std.proofs.Math.Bool.{or-false}
use Rattle.std.proofs.Math.Utf8.{encode}
use Rattle.std.proofs.lemmas.Bool.{cases_lt}
use Rattle.std.proofs.lemmas.Bool.Decides.{nat_tests}
use Rattle.std.proofs.lemmas.List.Folds.{list_any-append, list_any_at}
use Rattle.std.proofs.lemmas.Str.{encode_ascii, inside_one}
use Rattle.std.specs.List.{list_any}
use Rattle.std.specs.Char.Utf16.{is_high_surrogate, is_low_surrogate, lone_unit_char, utf16_chars}
use Rattle.std.specs.Char.Utf16.{utf16_lossy_chars, surrogate_pair_char}
use Rattle.resb_format.proofs.Spelled.{units_length}
use Rattle.resb_format.specs.Bytes.{units_of}
use Rattle.resb_walk.specs.Inner.Members.{text_of_bytes}

-- the number is among these
abbrev pub has : ℕ → List ℕ → Bool
has b xs = list_any (λ x. nat_eq x b) xs

-- no number from 128 on is one of ASCII
none_high : (b : ℕ) (xs : List ℕ) → b < 128 → ((k : ℕ) → k < length xs → 128 ≤ get_or xs k 0)
    → has b xs ≡ false
none_high b [] h f = refl
none_high b (x ∷ xs) h f =
    let high : 128 ≤ x = f 0 (omega arith) in
    let other : nat_eq x b ≡ false = grind (arith, nat_tests, high, h) in
    rw other (none_high b xs h (λ k below. f (suc k) (omega arith)))

-- of the bytes of a character one is of ASCII exactly where the character is
of_one : (b c : ℕ) → b < 128 → has b (encode c) ≡ nat_eq c b
of_one b c h = cases (cases_lt c 128)
  where
    cases : (c < 128) ⊎ (128 ≤ c) → has b (encode c) ≡ nat_eq c b
    cases (inl small) = rw (encode_ascii c small) (or-false (nat_eq c b))
    cases (inr big) =
        let other : nat_eq c b ≡ false = grind (arith, nat_tests, big, h) in
        none_high b (encode c) h (λ k below. byte k below) ∙ sym other
      where
        byte : (k : ℕ) → k < length (encode c) → 128 ≤ get_or (encode c) k 0
        byte k below = of_byte (cases_lt (get_or (encode c) k 0) 128)
          where
            of_byte : (get_or (encode c) k 0 < 128) ⊎ (128 ≤ get_or (encode c) k 0)
                → 128 ≤ get_or (encode c) k 0
            of_byte (inl low) =
                absurd (omega (arith, inside_one c [] (encode c) k (sym (append-nil _)) below low))
            of_byte (inr l) = l

-- one character before others
of_more : (b c u : ℕ) (cs us : List ℕ) → b < 128 → nat_eq c b ≡ nat_eq u b
    → has b (encode_utf8_all cs) ≡ has b us
    → has b (encode_utf8_all (c ∷ cs)) ≡ has b (u ∷ us)
of_more b c u cs us h e f =
    list_any-append (λ x. nat_eq x b) (encode c) (encode_utf8_all cs) ∙ rw (of_one b c h, e, f) refl

-- half of a pair that stands alone is none of ASCII, nor what is read for it
of_lone : (b u : ℕ) → b < 128 → nat_eq (unwrap_or (lone_unit_char u) 0xFFFD) b ≡ nat_eq u b
of_lone b u h = grind (arith, nat_tests, h)

-- nor is a pair
of_pair : (b u v : ℕ) → b < 128 → is_high_surrogate u ≡ true → is_low_surrogate v ≡ true
    → (nat_eq (surrogate_pair_char u v) b ≡ false) × (nat_eq u b ≡ false) × (nat_eq v b ≡ false)
of_pair b u v h high low = (
  grind (arith, nat_tests, h, high, low),
  grind (arith, nat_tests, h, high),
  grind (arith, nat_tests, h, low),
)

-- a text has a character of ASCII exactly where its units have it
pub of_units : (b : ℕ) (us : List ℕ) → b < 128
    → has b (encode_utf8_all (utf16_lossy_chars us)) ≡ has b us
unfolding utf16_chars
of_units b [] h = refl
of_units b (u ∷ []) h =
    of_more b (unwrap_or (lone_unit_char u) 0xFFFD) u [] [] h (of_lone b u h) refl
of_units b (u ∷ v ∷ us) h =
    cases (is_high_surrogate u) (is_low_surrogate v) refl refl (of_units b (v ∷ us) h)
    (of_units b us h)
  where
    alone : is_high_surrogate u && is_low_surrogate v ≡ false
        → has b (encode_utf8_all (utf16_lossy_chars (v ∷ us))) ≡ has b (v ∷ us)
        → has b (encode_utf8_all (utf16_lossy_chars (u ∷ v ∷ us))) ≡ has b (u ∷ v ∷ us)
    alone e more =
        rw e (of_more b (unwrap_or (lone_unit_char u) 0xFFFD) u (utf16_lossy_chars (v ∷ us))
        (v ∷ us) h (of_lone b u h) more)

    cases : (x y : Bool) → is_high_surrogate u ≡ x → is_low_surrogate v ≡ y
        → has b (encode_utf8_all (utf16_lossy_chars (v ∷ us))) ≡ has b (v ∷ us)
        → has b (encode_utf8_all (utf16_lossy_chars us)) ≡ has b us
        → has b (encode_utf8_all (utf16_lossy_chars (u ∷ v ∷ us))) ≡ has b (u ∷ v ∷ us)
    cases true true e f more two =
        let p = of_pair b u v h e f in
        rw (e, f) (list_any-append (λ x. nat_eq x b) (encode (surrogate_pair_char u v))
        (encode_utf8_all (utf16_lossy_chars us))
        ∙ rw (of_one b (surrogate_pair_char u v) h, p.0, p.1, p.2, two) refl)
    cases false y e f more two = alone (rw e refl) more
    cases true false e f more two = alone (rw (e, f) refl) more

-- the same of the bytes of the units
has_unit : (b : ℕ) (bytes : List ℕ) → b < 128
    → has b (text_of_bytes bytes) ≡ has b (units_of bytes)
has_unit b bytes h = of_units b (units_of bytes) h

-- where one of the units is the character, the text has it
pub found_unit : (b : ℕ) (bytes : List ℕ) (i x y : ℕ) → b < 128 → i < length bytes / 2
    → x ≡ get_or (units_of bytes) i 0 → y ≡ b → x ≡ y
    → true ≡ has b (text_of_bytes bytes)
found_unit b bytes i x y small inside at same e =
    let is : nat_eq (get_or (units_of bytes) i 0) b ≡ true = grind (arith, nat_tests, at, same, e)
    in
    sym (has_unit b bytes small
    ∙ list_any_at (λ u. nat_eq u b) (units_of bytes) i 0
    (omega (arith, units_length bytes, inside)) is)

none_at : (b : ℕ) (us : List ℕ)
    → ((k : ℕ) → k < length us → nat_eq (get_or us k 0) b ≡ false) → has b us ≡ false
none_at b [] h = refl
none_at b (u ∷ us) h =
    rw (h 0 (omega arith)) (none_at b us (λ k below. h (suc k) (omega (arith, below))))

-- where none of them is, the text lacks it
pub no_unit_found : (b : ℕ) (bytes : List ℕ) → b < 128
    → ((k : ℕ) → k < length bytes / 2 → nat_eq (get_or (units_of bytes) k 0) b ≡ false)
    → false ≡ has b (text_of_bytes bytes)
no_unit_found b bytes small h =
    sym (has_unit b bytes small
    ∙ none_at b (units_of bytes) (λ k below. h k (omega (arith, units_length bytes, below))))
