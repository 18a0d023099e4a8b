-- What is shown of the line round a place.
use Rattle.std.specs.Prelude.{◌≡◌, ◌⊎◌, ℕ, zero, suc, ◌+◌, ◌≤◌, ◌<◌, Bool, true, false, ◌==◌, List}
use Rattle.std.specs.Prelude.{length, slice_index, nat_lt, ◌||◌, ◌&&◌, if◌then◌else◌, chars}
use Rattle.std.specs.Prelude.{◌-◌, ◌++◌, ◌∷◌, [], map, flat_map, replicate, slice_range, IsTrue}
use Rattle.std.specs.Prelude.{IsUtf8, ◌↔◌, encode_utf8_all}
use Rattle.resb_diagnostics.specs.Location.{begins_character}
use Rattle.resb_grammar.specs.Ascii.{line_feed}

-- a line begins at a place: at the text's start, or behind a line feed
abbrev pub begins_line : List ℕ → ℕ → Bool
begins_line text zero = true
begins_line text (suc n) = slice_index text n == line_feed

-- no line ends from one place up to another
abbrev pub IsOneLine : List ℕ → ℕ → ℕ → Type 0
IsOneLine text from to = (k : ℕ) → from ≤ k → k < to → slice_index text k ≡ line_feed → ⊥

-- no character begins from one place up to another
abbrev pub BeginsNone : List ℕ → ℕ → ℕ → Type 0
BeginsNone text from to =
    (k : ℕ) → from ≤ k → k < to → begins_character (slice_index text k) ≡ false

-- what is shown is cut there: at the first character that begins from the lowest place on, or three
-- bytes behind that place where none begins before
pub record CutsExcerpt (text : List ℕ) (low at : ℕ) : Type 0 where
  pub order : low ≤ at
  pub near : at ≤ low + 3
  pub before : BeginsNone text low at
  pub stands : (begins_character (slice_index text at) ≡ true) ⊎ (at ≡ low + 3)

-- what is shown begins there: with the line, or where that is cut from 60 bytes before the place on
pub record StartsExcerpt (text : List ℕ) (place from : ℕ) : Type 0 where
  pub order : from ≤ place
  pub line : IsOneLine text from place
  pub near : place ≤ from + 60
  pub whole : (begins_line text from ≡ true)
      ⊎ ((low : ℕ) × (low + 60 ≡ place) × CutsExcerpt text low from)

-- what is shown ends there: with the line, or where that is cut from 60 bytes behind the place on
pub record EndsExcerpt (text : List ℕ) (place to : ℕ) : Type 0 where
  pub order : place ≤ to
  pub fits : to ≤ length text
  pub line : IsOneLine text place to
  pub near : to ≤ place + 63
  pub whole : ((to ≡ length text) ⊎ (slice_index text to ≡ line_feed))
      ⊎ CutsExcerpt text (place + 60) to

-- a character of control, or a mark that sets the direction of the text behind it
abbrev pub is_hidden : ℕ → Bool
is_hidden c = nat_lt c 32 || (nat_lt 126 c && nat_lt c 160) || c == 0x61c || c == 0x200e
    || c == 0x200f || (nat_lt 0x2029 c && nat_lt c 0x202f) || (nat_lt 0x2065 c && nat_lt c 0x206a)

-- what is shown of a character: a blank for one of control below U+0080, and `?` for all others
-- that are hidden
abbrev pub shown_character : ℕ → ℕ
shown_character c = if nat_lt c 32 || c == 127 then 32 else (if is_hidden c then 63 else c)

-- what is shown of a byte of a line that is no UTF-8: a blank for a character of control, `?` for
-- one that is no ASCII, and nothing for a byte that goes on with a character
abbrev pub shown_byte : ℕ → List ℕ
shown_byte b =
    if nat_lt b 32 || b == 127 then 32 ∷ []
    else (if nat_lt b 128 then b ∷ [] else (if begins_character b then 63 ∷ [] else []))

-- what is shown of a line, by whether it is UTF-8: one character for each of its own
abbrev pub shown_line : Bool → List ℕ → List ℕ
shown_line true line = encode_utf8_all (map shown_character (chars line))
shown_line false line = flat_map shown_byte line

-- how many of the n bytes from a place on begin a character
abbrev pub characters : List ℕ → ℕ → ℕ → ℕ
characters text from zero = 0
characters text from (suc n) =
    if begins_character (slice_index text (from + n)) then suc (characters text from n)
    else characters text from n

-- these bytes are what is shown of the line round a place, a line feed, a blank for each character
-- before the place, and a mark under it
pub record PointsAt (text : List ℕ) (place : ℕ) (bytes : List ℕ) : Type 0 where
  pub from : ℕ
  pub to : ℕ
  pub starts : StartsExcerpt text place from
  pub ends : EndsExcerpt text place to
  pub is_utf8 : Bool
  pub decides : IsTrue is_utf8 ↔ IsUtf8 (slice_range text from to)
  pub says : bytes ≡ shown_line is_utf8 (slice_range text from to) ++ (10 ∷ [])
      ++ replicate (characters text from (place - from)) 32 ++ (94 ∷ [])
