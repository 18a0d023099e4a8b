-- How a bundle's text of ICU's form spells names, keys and strings. All else of such a text stands
-- in `resb_print`. Each definition ends in `_on` that writes something before what follows.
use Rattle.std.specs.Prelude.{ℕ, Bool, false, ◌||◌, ◌==◌, List, [], ◌∷◌, ◌++◌}
use Rattle.std.specs.Prelude.{codes, if◌then◌else◌}
use Rattle.std.specs.List.{list_all}
use Rattle.std.specs.Char.{is_ascii_control}
use Rattle.hex.specs.Hex.{encode_lower}
use Rattle.resb_grammar.specs.Ascii as ascii
use Rattle.resb_icu_grammar.specs.Bytes.{is_word, backslash}
use Rattle.resb_print.specs.Printed.{quoted_on}
use Rattle.resb_print.specs.Spelling.{Spelling}

-- the characters " and \
abbrev pub is_marked : ℕ → Bool
is_marked b = b == ascii.quote || b == backslash

-- a byte of a string: " and \ behind a backslash, a control character as `\u00` and two hex digits,
-- any other as it is
abbrev pub escaped_on : ℕ → List ℕ → List ℕ
escaped_on b rest =
    if is_marked b then backslash ∷ b ∷ rest
    else if is_ascii_control b then codes "\\u00" ++ (encode_lower (b ∷ []) ++ rest)
    else b ∷ rest

-- the bytes of a string
abbrev pub inside_on : List ℕ → List ℕ → List ℕ
inside_on [] rest = rest
inside_on (b ∷ s) rest = escaped_on b (inside_on s rest)

-- a string in quotes
abbrev pub piece_on : List ℕ → List ℕ → List ℕ
piece_on s rest = ascii.quote ∷ inside_on s (ascii.quote ∷ rest)

-- word characters, and at least one
abbrev pub is_bare : List ℕ → Bool
is_bare [] = false
is_bare (b ∷ bs) = list_all is_word (b ∷ bs)

-- a key, quoted where it has to be
abbrev pub key_on : List ℕ → List ℕ → List ℕ
key_on k rest = if is_bare k then k ++ rest else quoted_on k rest

-- ICU's form: the name stands as it is, keys without quotes where they may, and strings with what
-- is escaped in them
abbrev pub icu_spelling : Spelling
icu_spelling = record { name_on = ◌++◌; key_on = key_on; piece_on = piece_on }
