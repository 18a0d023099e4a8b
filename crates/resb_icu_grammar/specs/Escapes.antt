-- Escapes: what a backslash and the bytes behind it stand for.
-- Places are those of the byte behind the backslash.
use Rattle.std.specs.Prelude.{◌≡◌, ◌≢◌, ◌≤◌, ◌<◌, ◌⊎◌, ◌+◌, ◌-◌, ◌%◌, ◌&&◌, ◌||◌, ◌==◌, ℕ, zero}
use Rattle.std.specs.Prelude.{suc, Bool, true, false, List, [], ◌∷◌, length, slice_index}
use Rattle.std.specs.Prelude.{encode_utf8, codes, if◌then◌else◌}
use Rattle.std.specs.List.{list_any}
use Rattle.std.specs.Char.{IsScalar, is_digit}
use Rattle.std.specs.Char.Utf16.{is_high_surrogate, is_low_surrogate, surrogate_pair_char}
use Rattle.resb_grammar.specs.ByteRuns.{Each}
use Rattle.resb_grammar.specs.Lexical.{digits_value}
use Rattle.resb_grammar.specs.Group.{is_hex}
use Rattle.resb_icu_grammar.specs.Bytes.{backslash}

-- the first n bytes from a place are hex digits
abbrev pub are_hex : List ℕ → ℕ → ℕ → Bool
are_hex text from zero = true
are_hex text from (suc n) = are_hex text from n && is_hex (slice_index text (from + n))

-- the number that digits of a radix say from a place on: as many as stand there, up to this many,
-- and at least one
pub record FewDigits (radix most : ℕ) (text : List ℕ) (from to value : ℕ) : Type 0 where
  pub some : from < to
  pub few : to ≤ from + most
  pub each : Each (λ b. is_digit b radix) text from to
  pub longest : (to ≡ from + most) ⊎ (is_digit (slice_index text to) radix ≡ false)
  pub means : value ≡ digits_value radix text from (to - from)

-- the letters that stand for a control character each
abbrev pub is_letter : ℕ → Bool
is_letter b = list_any (λ letter. b == letter) (codes "abefnrtv")

-- the character of such a letter: for `a` U+0007, `b` U+0008, `e` U+001B, `f` U+000C, `n` LF, `r`
-- CR, `t` a tab, `v` U+000B
abbrev pub letter_character : ℕ → ℕ
letter_character b =
    if b == 97 then 7
    else if b == 98 then 8
    else if b == 101 then 27
    else if b == 102 then 12
    else if b == 110 then 10
    else if b == 114 then 13
    else if b == 116 then 9
    else 11

-- the bytes with which a longer escape begins: `u`, `U`, `x`, `c` and the octal digits
abbrev pub begins_longer : ℕ → Bool
begins_longer b = list_any (λ first. b == first) (codes "uUxc01234567")

-- what genrb doesn't mean by a number behind this first byte: a backslash, which takes the next
-- character with it; and the byte itself, whose digits it leaves standing
abbrev pub is_lost : ℕ → ℕ → Bool
is_lost first c = c == backslash || c == first

-- `u` and four hex digits stand there, and say this number
pub record FourDigits (text : List ℕ) (at value : ℕ) : Type 0 where
  pub letter : slice_index text at ≡ 117
  pub digits : are_hex text (at + 1) 4 ≡ true
  pub means : value ≡ digits_value 16 text (at + 1) 4

-- what a backslash and the bytes behind it stand for: `u` and four hex digits, two such with a
-- backslash between them for a surrogate pair, `U` and eight digits, `c` and a character, `x` and
-- hex digits, octal ones, and the letters of control characters. Any other byte stands for itself,
-- so that a character of several bytes does
pub data Escape (text : List ℕ) (at : ℕ) : ℕ → List ℕ → Type 0 where
  -- `\\`, `\"`, `\q`, a backslash at a line's end, `\é` by its first byte
  itself : at < length text → is_letter (slice_index text at) ≡ false
      → begins_longer (slice_index text at) ≡ false
      → Escape text at (at + 1) (slice_index text at ∷ [])
  -- `\n`: LF, and so on
  letter : is_letter (slice_index text at) ≡ true
      → Escape text at (at + 1) (letter_character (slice_index text at) ∷ [])
  -- `\u` and four hex digits: that character, but neither a backslash nor half of a pair
  four_digits : (c : ℕ) → FourDigits text at c → IsScalar c → c ≢ backslash
      → Escape text at (at + 5) (encode_utf8 c)
  -- `\u` and four hex digits, twice: the character of a surrogate pair
  pair : (high low : ℕ) → FourDigits text at high → is_high_surrogate high ≡ true
      → slice_index text (at + 5) ≡ backslash → FourDigits text (at + 6) low
      → is_low_surrogate low ≡ true
      → Escape text at (at + 11) (encode_utf8 (surrogate_pair_char high low))
  -- `\U` and eight hex digits: that character, if it is one, and neither a backslash nor a `U`
  eight_digits : (c : ℕ) → slice_index text at ≡ 85 → are_hex text (at + 1) 8 ≡ true
      → c ≡ digits_value 16 text (at + 1) 8 → IsScalar c → is_lost 85 c ≡ false
      → Escape text at (at + 9) (encode_utf8 c)
  -- `\c` and a character of ASCII other than U+0000: its last five bits
  control : slice_index text at ≡ 99 → 0 < slice_index text (at + 1)
      → slice_index text (at + 1) < 128
      → Escape text at (at + 2) (slice_index text (at + 1) % 32 ∷ [])
  -- `\x` and one hex digit or two: that character, but neither a backslash nor an `x`
  short_hex : (c to : ℕ) → slice_index text at ≡ 120 → FewDigits 16 2 text (at + 1) to c
      → is_lost 120 c ≡ false → Escape text at to (encode_utf8 c)
  -- one octal digit to three: that character, but neither a backslash nor the first digit
  octal : (c to : ℕ) → FewDigits 8 3 text at to c → is_lost (slice_index text at) c ≡ false
      → Escape text at to (encode_utf8 c)

-- a number is half of a surrogate pair
abbrev pub is_half : ℕ → Bool
is_half c = is_high_surrogate c || is_low_surrogate c

-- half of a surrogate pair is written there, by four hex digits or by eight
abbrev pub says_half : List ℕ → ℕ → Bool
says_half text at =
    (slice_index text at == 117 && (are_hex text (at + 1) 4
    && is_half (digits_value 16 text (at + 1) 4)))
    || (slice_index text at == 85 && (are_hex text (at + 1) 8
    && is_half (digits_value 16 text (at + 1) 8)))
