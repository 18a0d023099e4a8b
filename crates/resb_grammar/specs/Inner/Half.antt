-- Items that may go on to be a table's.
use Rattle.std.specs.Prelude.{Bool, true, false, List, [], ◌∷◌}
use Rattle.resb_grammar.specs.Items.{Term, string_term, group_term, Item, is_pairs}

-- a key without its group
abbrev pub is_lone_key : Term → Bool → List Item → Bool
is_lone_key (string_term s) false xs = is_pairs xs
is_lone_key _ _ xs = false

abbrev pub key_first : List Item → Bool
key_first [] = false
key_first (y ∷ ys) = is_lone_key y.term y.comma ys

abbrev pub is_half_behind : Term → Bool → List Item → Bool
is_half_behind (string_term s) false xs = is_pairs xs
is_half_behind (group_term t ks) false xs = key_first xs
is_half_behind _ _ xs = false

-- entries, and perhaps a key without its group
abbrev pub is_half : List Item → Bool
is_half [] = true
is_half (x ∷ xs) = is_half_behind x.term x.comma xs
