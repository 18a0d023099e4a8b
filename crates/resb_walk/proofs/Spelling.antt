-- Units below the surrogates, spelled as UTF-8 one behind the other.
use Rattle.std.proofs.Common.{ℕ, suc, List, [], ◌∷◌, ◌≡◌, true, false, refl, sym, ap, ◌∙◌, arith}
use Rattle.std.proofs.Common.{◌<◌, ◌≤◌, ◌+◌, ◌/◌, ◌%◌, ◌++◌, length, take, set, get_or, nat_lt}
use Rattle.std.proofs.Common.{IsUtf8, encode_utf8_all, append-nil, lit<, inl, inr}
use Rattle.std.proofs.Math.Utf8.{scalars, encode, low_scalar}
use Rattle.std.proofs.lemmas.Bool.{cases_lt}
use Rattle.std.proofs.lemmas.Bool.Decides.{nat_tests}
use Rattle.std.proofs.lemmas.List.{length-set, take_more_set, take_more, take_all, append_assoc}
use Rattle.std.proofs.lemmas.Str.{encodes-append}
use Rattle.std.specs.Char.Utf16.{is_high_surrogate, is_low_surrogate, utf16_lossy_chars}
use Rattle.resb_blocks.proofs.Surrogates.{plain_chars}
use Rattle.resb_format.specs.Bytes.{units_of}
use Rattle.resb_format.proofs.Spelled.{units_length}
use Rattle.resb_walk.specs.Inner.Members.{text_of_bytes}
use Rattle.resb_walk.proofs.Lists.{front_below}
use Rattle.resb_walk.proofs.Surrogates.{no_units_no_chars}

-- the two and the three bytes of a character
encode_two : (c : ℕ) → 128 ≤ c → c < 0x800
    → encode c ≡ (192 + c / 64) ∷ (128 + c % 64) ∷ []
unfolding encode
encode_two c l h =
    let no : nat_lt c 128 ≡ false = grind (arith, nat_tests, l) in
    let yes : nat_lt c 2048 ≡ true = grind (arith, nat_tests, h) in
    rw (no, yes) refl

encode_three : (c : ℕ) → 0x800 ≤ c → c < 0x1_0000
    → encode c ≡ (224 + c / 4096) ∷ (128 + c / 64 % 64) ∷ (128 + c % 64) ∷ []
unfolding encode
encode_three c l h =
    let small : nat_lt c 128 ≡ false = grind (arith, nat_tests, l) in
    let no : nat_lt c 2048 ≡ false = grind (arith, nat_tests, l) in
    let yes : nat_lt c 65536 ≡ true = grind (arith, nat_tests, h) in
    rw (small, no, yes) refl

-- two and three bytes more behind a front
put_two : (xs : List ℕ) (n a b : ℕ) → n + 2 ≤ length xs
    → take (n + 2) (set (set xs n a) (n + 1) b) ≡ take n xs ++ a ∷ b ∷ []
put_two xs n a b room =
    let one = set xs n a in
    let first : n < length xs = omega arith in
    let second : n + 1 < length one = omega (arith, length-set xs n a) in
    let next : n + 2 ≡ (n + 1) + 1 = omega arith in
    rw (next, take_more_set one (n + 1) b second, take_more_set xs n a first)
    (append_assoc (take n xs) (a ∷ []) (b ∷ []))

put_three : (xs : List ℕ) (n a b c : ℕ) → n + 3 ≤ length xs
    → take (n + 3) (set (set (set xs n a) (n + 1) b) (n + 2) c) ≡ take n xs ++ a ∷ b ∷ c ∷ []
put_three xs n a b c room =
    let two = set (set xs n a) (n + 1) b in
    let long : length two ≡ length xs =
    length-set (set xs n a) (n + 1) b ∙ length-set xs n a in
    let third : n + 2 < length two = omega (arith, long) in
    let few : n + 2 ≤ length xs = omega arith in
    let next : n + 3 ≡ (n + 2) + 1 = omega arith in
    rw (next, take_more_set two (n + 2) c third, put_two xs n a b few)
    (append_assoc (take n xs) (a ∷ b ∷ []) (c ∷ []))

-- a character of two or of three bytes is put behind a front
pub spells_two : (xs : List ℕ) (n u : ℕ) → n + 3 ≤ length xs → 128 ≤ u → u < 0x800
    → take (n + 2) (set (set xs n (192 + u / 64)) (n + 1) (128 + u % 64))
    ≡ take n xs ++ encode u
spells_two xs n u room l h =
    rw (encode_two u l h) (put_two xs n (192 + u / 64) (128 + u % 64) (omega arith))

pub spells_three : (xs : List ℕ) (n u : ℕ) → n + 3 ≤ length xs → 0x800 ≤ u → u < 0x1_0000
    → take (n + 3) (set (set (set xs n (224 + u / 4096)) (n + 1) (128 + u / 64 % 64))
    (n + 2) (128 + u % 64))
    ≡ take n xs ++ encode u
spells_three xs n u room l h =
    rw (encode_three u l h)
    (put_three xs n (224 + u / 4096) (128 + u / 64 % 64) (128 + u % 64) room)

-- the text of one unit more
pub spelled_more : (us old new : List ℕ) (n end stop unit : ℕ) → n < length us
    → take end old ≡ encode_utf8_all (take n us) → take stop new ≡ take end old ++ encode unit
    → unit ≡ get_or us n 0 → take stop new ≡ encode_utf8_all (take (n + 1) us)
spelled_more us old new n end stop unit within front more is =
    let one : encode_utf8_all (unit ∷ []) ≡ encode unit = append-nil (encode unit) in
    let both : encode_utf8_all (take n us ++ unit ∷ []) ≡ encode_utf8_all (take n us) ++ encode unit
    = encodes-append (take n us) (unit ∷ [])
    ∙ ap (λ bs. encode_utf8_all (take n us) ++ bs) one in
    more ∙ ap (λ bs. bs ++ encode unit) front ∙ sym both
    ∙ ap (λ u. encode_utf8_all (take n us ++ u ∷ [])) is
    ∙ ap encode_utf8_all (sym (take_more us n 0 within))

-- one more unit is below
pub further_below : (us : List ℕ) (n most : ℕ) → get_or us n 0 < most
    → ((k : ℕ) → k < n → get_or us k 0 < most) → (k : ℕ) → k < n + 1 → get_or us k 0 < most
further_below us n most here h k less = elim (cases_lt k n) [
  | inl before ↦ h k before
  | inr behind ↦
      let same : k ≡ n = omega arith in
      rw same here
]

-- units below the surrogates are their characters
low_chars : (us : List ℕ) → ((k : ℕ) → get_or us k 0 < 0xd800) → utf16_lossy_chars us ≡ us
low_chars [] h = no_units_no_chars [] refl
low_chars (u ∷ us) h =
    let small : u < 0xd800 = h 0 in
    let high : is_high_surrogate u ≡ false = grind (arith, nat_tests, small) in
    let low : is_low_surrogate u ≡ false = grind (arith, nat_tests, small) in
    plain_chars u us high low ∙ ap (λ cs. u ∷ cs) (low_chars us (λ k. h (suc k)))

low_scalars : (us : List ℕ) → ((k : ℕ) → get_or us k 0 < 0xd800) → scalars us ≡ true
low_scalars [] h = refl
low_scalars (u ∷ us) h =
    let first = low_scalar u (h 0) in
    let more = low_scalars us (λ k. h (suc k)) in
    rw (first, more) refl

-- what is spelled of all units is their text
pub spelled_all : (bs spelled : List ℕ) (n end : ℕ) → length bs / 2 ≤ n
    → take end spelled ≡ encode_utf8_all (take n (units_of bs))
    → ((k : ℕ) → k < n → get_or (units_of bs) k 0 < 0xd800)
    → IsUtf8 (take end spelled) × (take end spelled ≡ text_of_bytes bs)
spelled_all bs spelled n end most e h =
    let us = units_of bs in
    let long : length us ≤ n = omega (arith, units_length bs) in
    let whole : take n us ≡ us = take_all n us long in
    let low : (k : ℕ) → get_or us k 0 < 0xd800 =
    rw whole at (front_below us n 0xd800 (lit< tt) h) in
    let is : take end spelled ≡ encode_utf8_all us = e ∙ ap encode_utf8_all whole in (
      (us, (low_scalars us low, sym is)),
      is ∙ ap encode_utf8_all (sym (low_chars us low)),
    )
