-- Where a bundle holds a `"`, which no text can give to a string.
use Rattle.std.specs.Prelude.{ℕ, Bool, false, ◌||◌, ◌==◌, List, [], ◌∷◌}
use Rattle.resb_grammar.specs.Ascii as ascii

-- a quote is among the bytes
abbrev pub has_quote : List ℕ → Bool
has_quote [] = false
has_quote (b ∷ bs) = b == ascii.quote || has_quote bs
