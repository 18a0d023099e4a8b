-- What an escape's answer stands for.
use Rattle.std.specs.Prelude.{◌≡◌, ◌≢◌, ◌+◌, ◌<◌, ℕ, List, [], ◌∷◌, Option, Some, None}
use Rattle.std.specs.Prelude.{encode_utf8, slice_index}
use Rattle.resb_icu_grammar.specs.Escapes.{FewDigits}

-- a character's bytes; or the byte itself where there is none
abbrev pub bytes_of : ℕ → Option ℕ → List ℕ
bytes_of b None = b ∷ []
bytes_of b (Some c) = encode_utf8 c

-- the number that short hex digits behind an `x`, or else octal digits say
pub data ShortNumber (text : List ℕ) (at to c : ℕ) : Type 0 where
  by_hex : slice_index text at ≡ 120 → FewDigits 16 2 text (at + 1) to c → ShortNumber text at to c
  by_octal : slice_index text at ≢ 120 → FewDigits 8 3 text at to c → ShortNumber text at to c

-- a byte of ASCII other than 0
abbrev pub IsAscii : ℕ → Type 0
IsAscii b = (0 < b) × (b < 128)
