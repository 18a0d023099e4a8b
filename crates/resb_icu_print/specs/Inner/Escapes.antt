-- Which bytes of a string are escaped.
use Rattle.std.specs.Prelude.{ℕ, Bool, false, ◌||◌, List, [], ◌∷◌}
use Rattle.std.specs.Char.{is_ascii_control}
use Rattle.resb_icu_print.specs.Printed.{is_marked}

-- a quote, a backslash or a control character
abbrev pub is_escaped : ℕ → Bool
is_escaped b = is_marked b || is_ascii_control b

-- one of the bytes is escaped
abbrev pub has_escape : List ℕ → Bool
has_escape [] = false
has_escape (b ∷ s) = is_escaped b || has_escape s
