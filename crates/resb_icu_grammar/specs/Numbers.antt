-- Numbers of ICU's text form, as C's `strtoul` reads them: their digits, their sign, and where one
-- ends. How much of a number a bundle holds is said in `Groups`.
use Rattle.std.specs.Prelude.{◌≡◌, ◌≢◌, ◌≤◌, ◌<◌, ◌+◌, ◌-◌, ◌||◌, ◌==◌, ℕ, Bool, true, List}
use Rattle.std.specs.Prelude.{slice_index}
use Rattle.std.specs.Char.{is_digit}
use Rattle.resb_grammar.specs.Ascii as ascii
use Rattle.resb_grammar.specs.ByteRuns.{Run, Each}
use Rattle.resb_grammar.specs.Lexical.{digits_value, negated}
use Rattle.resb_icu_grammar.specs.Bytes.{is_word}

-- digits of this radix from one place up to another, at least one, and the number that they say
pub record AllDigits (radix : ℕ) (text : List ℕ) (from to value : ℕ) : Type 0 where
  pub some : from < to
  pub each : Each (λ b. is_digit b radix) text from to
  pub means : value ≡ digits_value radix text from (to - from)

-- the letter behind the 0 with which a hexadecimal number begins: `x` or `X`
abbrev pub is_hex_letter : ℕ → Bool
is_hex_letter b = b == 120 || b == 88

-- a number without its sign: decimal digits; octal ones, where it begins with a 0, as 0 itself
-- does; or `0x` and hex digits
pub data Magnitude (text : List ℕ) (from to : ℕ) : ℕ → Type 0 where
  decimal : (value : ℕ) → slice_index text from ≢ ascii.digit_0
      → AllDigits 10 text from to value → Magnitude text from to value
  octal : (value : ℕ) → slice_index text from ≡ ascii.digit_0
      → AllDigits 8 text from to value → Magnitude text from to value
  hex : (value : ℕ) → slice_index text from ≡ ascii.digit_0
      → is_hex_letter (slice_index text (from + 1)) ≡ true
      → AllDigits 16 text (from + 2) to value → Magnitude text from to value

-- a number with its sign: without one at most 4294967295, with a plus at most 2147483647, with a
-- minus at most 2147483648, which is taken modulo 2^32
pub data Signed (text : List ℕ) (from to : ℕ) : ℕ → Type 0 where
  unsigned : (value : ℕ) → Magnitude text from to value → value ≤ 4294967295
      → Signed text from to value
  plus : (value : ℕ) → slice_index text from ≡ ascii.plus → Magnitude text (from + 1) to value
      → value ≤ 2147483647 → Signed text from to value
  minus : (n : ℕ) → slice_index text from ≡ ascii.dash → Magnitude text (from + 1) to n
      → n ≤ 2147483648 → Signed text from to (negated n)

-- a number: a whole word, as it is or in quotes; and two quotes with nothing between them, which
-- are 0
pub data Number (text : List ℕ) (from to : ℕ) : ℕ → Type 0 where
  a_word : (value : ℕ) → Run is_word text from to → Signed text from to value
      → Number text from to value
  in_quotes : (last value : ℕ) → slice_index text from ≡ ascii.quote
      → Run is_word text (from + 1) last → Signed text (from + 1) last value
      → slice_index text last ≡ ascii.quote → to ≡ last + 1 → Number text from to value
  nothing : slice_index text from ≡ ascii.quote → slice_index text (from + 1) ≡ ascii.quote
      → to ≡ from + 2 → Number text from to 0
