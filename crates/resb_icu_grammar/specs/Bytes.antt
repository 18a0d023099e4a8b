-- The bytes that words and keys of ICU's text form are made of, and those that it names beside the
-- bytes of the plain form.
use Rattle.std.specs.Prelude.{ℕ, List, ◌∷◌, Bool, not, ◌&&◌, ◌||◌, ◌==◌, nat_le, codes}
use Rattle.std.specs.List.{list_any}
use Rattle.std.specs.Char.{is_ascii_alphanumeric}
use Rattle.resb_grammar.specs.Ascii as ascii
use Rattle.resb_grammar.specs.ByteRuns.{is_white}

-- the character \
abbrev pub backslash : ℕ
backslash = 92

-- the characters _ . %
abbrev pub is_added_mark : ℕ → Bool
is_added_mark b = b == 95 || (b == 46 || b == 37)

-- word characters: ASCII letters and digits, and _ - . % +
abbrev pub is_word : ℕ → Bool
is_word b =
    is_ascii_alphanumeric b || (is_added_mark b || (b == ascii.dash || b == ascii.plus))

-- what may stand in an unquoted string: all but white characters, U+0000 and `"` `,` `:` `\` `{`
-- `}`
abbrev pub is_unquoted : ℕ → Bool
is_unquoted b =
    not (is_white b) && not (list_any (λ mark. b == mark) (0 ∷ codes "\",:\\{}"))

-- what may not stand in a key, of the printable characters of ASCII
abbrev pub is_no_key_mark : ℕ → Bool
is_no_key_mark b = list_any (λ mark. b == mark) (codes "!#$@[\\]^`{|}~")

-- what may stand in a key: the printable characters of ASCII but ! # $ @ [ \ ] ^ ` { | } ~
abbrev pub is_key_byte : ℕ → Bool
is_key_byte b = (nat_le 32 b && nat_le b 126) && not (is_no_key_mark b)

-- each byte may stand in a key
abbrev pub are_key_bytes : List ℕ → Bool
are_key_bytes bytes = not (list_any (λ b. not (is_key_byte b)) bytes)
