-- Bytes of the text form, and runs of them.
use Rattle.std.specs.Prelude.{◌≡◌, ℕ, ◌<◌, ◌≤◌, Bool, true, false, ◌||◌, ◌==◌, List, length}
use Rattle.std.specs.Prelude.{slice_index}
use Rattle.std.specs.Char.{is_ascii_digit, is_ascii_alphanumeric}
use Rattle.resb_grammar.specs.Ascii as ascii

-- white characters: space, tab, CR, LF
abbrev pub is_white : ℕ → Bool
is_white b =
    (b == ascii.space || b == ascii.tab) || (b == ascii.carriage_return || b == ascii.line_feed)

-- LF or CR
abbrev pub is_line_end : ℕ → Bool
is_line_end b = b == ascii.line_feed || b == ascii.carriage_return

-- word characters: ASCII letters and digits, and the dash
abbrev pub is_word : ℕ → Bool
is_word b = is_ascii_alphanumeric b || b == ascii.dash

-- a sign or a digit
abbrev pub is_number_start : ℕ → Bool
is_number_start b = (b == ascii.plus || b == ascii.dash) || is_ascii_digit b

-- each byte from `from` on and before `to` passes
abbrev pub Each : (ℕ → Bool) → List ℕ → ℕ → ℕ → Type 0
Each p text from to = (k : ℕ) → from ≤ k → k < to → p (slice_index text k) ≡ true

-- a longest run of bytes that pass
pub record Run (p : ℕ → Bool) (text : List ℕ) (from to : ℕ) : Type 0 where
  pub order : from ≤ to
  pub fits : to ≤ length text
  pub each : Each p text from to
  pub longest : p (slice_index text to) ≡ false

-- the first quote from here on
pub record FirstQuote (text : List ℕ) (from to : ℕ) : Type 0 where
  pub order : from ≤ to
  pub closes : slice_index text to ≡ ascii.quote
  pub inner : (k : ℕ) → from ≤ k → k < to → slice_index text k ≡ ascii.quote → ⊥
