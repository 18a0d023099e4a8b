-- The units of a text, a character at a time, and how many there are.
use Rattle.std.proofs.Common.{◌≡◌, ℕ, ◌≤◌, ◌<◌, List, [], ◌∷◌, ◌++◌, length, length-append}
use Rattle.std.proofs.Common.{suc, refl, ap, ◌∙◌, arith}
use Rattle.std.specs.List.{flat_map}
use Rattle.std.specs.Char.{len_utf8}
use Rattle.std.specs.Char.Escape.{encode_utf16}
use Rattle.std.specs.Str.{chars, IsUtf8, IsAscii, encode_utf8_all}
use Rattle.std.proofs.Math.Utf8.{encode, encodes}
use Rattle.std.proofs.lemmas.Str.{length-encode, len_utf8_bounds, encodes-chars, chars-IsAscii}
use Rattle.std.proofs.lemmas.Bool.Decides.{nat_tests}
use Rattle.resb_format.specs.Units.{units}

-- only the empty text has no byte
pub empty_encoding : (cs : List ℕ) → length (encode_utf8_all cs) ≡ 0 → cs ≡ []
empty_encoding [] e = refl
empty_encoding (c ∷ cs) e =
    absurd (omega
    (arith, len_utf8_bounds c, length-encode c, length-append (encode c) (encode_utf8_all cs)))

-- how many units one character has
pub unit_count : (c n : ℕ) → (c < 0x10000 → n ≡ 1) → (0x10000 ≤ c → n ≡ 2)
    → length (encode_utf16 c) ≡ n
unit_count c n h k = grind (arith, nat_tests)

-- a character of 16 bits is one unit
pub low_char : (c : ℕ) → c < 0x1_0000 → encode_utf16 c ≡ c ∷ []
low_char c h = grind (arith, nat_tests)

-- how many units a character takes
units_of_char : (c : ℕ) → length (encode_utf16 c) ≤ len_utf8 c
units_of_char c = grind (arith, nat_tests)

pub units_le : (cs : List ℕ) → length (flat_map encode_utf16 cs) ≤ length (encodes cs)
units_le [] = omega arith
units_le (c ∷ cs) = omega (
  arith,
  units_le cs,
  units_of_char c,
  length-encode c,
  length-append
      (encode_utf16 c) (flat_map encode_utf16 cs),
  length-append (encode c) (encodes cs),
)

-- a text has no more units than bytes
pub units_within : (s : List ℕ) → IsUtf8 s → length (units s) ≤ length s
units_within s u = omega (arith, units_le (chars s), ap length (encodes-chars s u))

-- ASCII
bytes_ascii : (bs : List ℕ) → IsAscii bs → flat_map encode_utf16 bs ≡ bs
bytes_ascii [] h = refl
bytes_ascii (b ∷ bs) h = ap (λ l. l ++ flat_map encode_utf16 bs) (low_char b (omega (arith, h 0)))
    ∙ ap (λ l. b ∷ l) (bytes_ascii bs (λ i. h (suc i)))

-- the units of ASCII are its bytes
pub units_ascii : (t : List ℕ) → IsAscii t → units t ≡ t
units_ascii t h = ap (flat_map encode_utf16) (chars-IsAscii t h) ∙ bytes_ascii t h
