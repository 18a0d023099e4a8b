-- What stands between tokens, and the tokens. All are relations on a text and two places.
use Rattle.std.specs.Prelude.{◌≡◌, ℕ, zero, suc, ◌+◌, ◌-◌, ◌*◌, ◌%◌, ◌^◌, ◌<◌, ◌≤◌, ◌⊎◌, true}
use Rattle.std.specs.Prelude.{false, List, length, slice_index, slice_range}
use Rattle.std.specs.Char.{is_ascii_digit, digit_value}
use Rattle.resb_grammar.specs.Ascii as ascii
use Rattle.resb_grammar.specs.ByteRuns.{is_white, is_line_end, is_word, Run, FirstQuote}

-- what follows `//` up to the line's end: the text's end, LF, or CR LF
pub record LineRest (text : List ℕ) (from to : ℕ) : Type 0 where
  pub order : from ≤ to
  pub fits : to ≤ length text
  pub body : (k : ℕ) → from ≤ k → k < to → is_line_end (slice_index text k) ≡ false
  pub ends : (to ≡ length text)
      ⊎ ((slice_index text to ≡ ascii.line_feed)
      ⊎ ((slice_index text to ≡ ascii.carriage_return)
      × (slice_index text (to + 1) ≡ ascii.line_feed)))

-- `*/` stands here
pub record Closer (text : List ℕ) (at : ℕ) : Type 0 where
  pub star : slice_index text at ≡ ascii.star
  pub slash : slice_index text (at + 1) ≡ ascii.slash

-- the first `*/` from here on
pub record FirstCloser (text : List ℕ) (from at : ℕ) : Type 0 where
  pub order : from ≤ at
  pub closer : Closer text at
  pub first : (k : ℕ) → from ≤ k → k < at → Closer text k → ⊥

-- a comment: `//` and what follows it up to the line's end, or `/*` and what follows it up to the
-- first `*/`
pub data Comment (text : List ℕ) (from to : ℕ) : Type 0 where
  line : slice_index text from ≡ ascii.slash → slice_index text (from + 1) ≡ ascii.slash
      → LineRest text (from + 2) to → Comment text from to
  block : (at : ℕ) → slice_index text from ≡ ascii.slash → slice_index text (from + 1) ≡ ascii.star
      → FirstCloser text (from + 2) at → to ≡ at + 2 → Comment text from to

-- white characters and comments
pub data Blanks (text : List ℕ) : ℕ → ℕ → Type 0 where
  none : (i : ℕ) → Blanks text i i
  white : (i to : ℕ) → is_white (slice_index text i) ≡ true → Blanks text (i + 1) to
      → Blanks text i to
  comment : (i k to : ℕ) → Comment text i k → Blanks text k to → Blanks text i to

-- neither a white character nor a comment begins here
pub record IsSolid (text : List ℕ) (at : ℕ) : Type 0 where
  pub no_white : is_white (slice_index text at) ≡ false
  pub no_comment : (k : ℕ) → Comment text at k → ⊥

-- discardable text, as far as it goes: white characters and comments, and none begins where it ends
pub record Skip (text : List ℕ) (from to : ℕ) : Type 0 where
  pub blanks : Blanks text from to
  pub solid : IsSolid text to

-- a string, with its bytes: a quote, no quote, and a quote; or a longest run of word characters
-- that isn't empty
pub data Text (text : List ℕ) (from to : ℕ) (bytes : List ℕ) : Type 0 where
  quoted : (last : ℕ) → slice_index text from ≡ ascii.quote → FirstQuote text (from + 1) last
      → to ≡ last + 1 → bytes ≡ slice_range text (from + 1) last → Text text from to bytes
  unquoted : Run is_word text from to → from < to → bytes ≡ slice_range text from to
      → Text text from to bytes

-- the number that the first n digits from a place say in a radix
abbrev pub digits_value : ℕ → List ℕ → ℕ → ℕ → ℕ
digits_value radix text from zero = 0
digits_value radix text from (suc n) =
    digits_value radix text from n * radix + digit_value (slice_index text (from + n))

-- a longest run of at least one digit, with its value
pub record Digits (text : List ℕ) (from to value : ℕ) : Type 0 where
  pub run : Run is_ascii_digit text from to
  pub some : from < to
  pub means : value ≡ digits_value 10 text from (to - from)

-- what is minus n, modulo 2 ^ 32
abbrev pub negated : ℕ → ℕ
negated n = (2 ^ 32 - n) % 2 ^ 32

-- a number, with its value: a longest run of digits of at most 2^32 - 1; or `+` and at most 2^31 -
-- 1; or `-` and at most 2^31, taken modulo 2^32
pub data Number (text : List ℕ) (from to value : ℕ) : Type 0 where
  unsigned : Digits text from to value → value ≤ 4294967295 → Number text from to value
  plus : slice_index text from ≡ ascii.plus → Digits text (from + 1) to value → value ≤ 2147483647
      → Number text from to value
  minus : (n : ℕ) → slice_index text from ≡ ascii.dash → Digits text (from + 1) to n
      → n ≤ 2147483648 → value ≡ negated n → Number text from to value
