-- The lines of a bundle in a form, as `resb_print` says them.
--     lines_of f name fallback t      the text of a bundle; none where its root is no table
--     IsTextWithin limit text found   the text is found where it has no more bytes than the limit
use Rattle.std.specs.Prelude.{◌≡◌, ◌<◌, ◌≤◌, ℕ, List, [], Bool, length}
use Rattle.std.specs.Prelude.{Option, MatchOption}
use Rattle.std.specs.String.{string_bytes}
use Rattle.std.specs.declared.alloc.Global.{Global}
use Rattle.std.specs.declared.string.String.{String}
use Rattle.resb_tree.specs.Tree.{Tree, string, alias, array, table, binary, integer, int_vector}
use Rattle.resb_print.specs.Spelling.{Spelling}
use Rattle.resb_print.specs.Printed.{end_on, close_on, printed_bundle}
use Rattle.resb_print.specs.declared.place.Place.{Place}

-- the end of a collection, on a line of its own, and what follows a resource at its place
abbrev pub end_line_on : ℕ → Place → List ℕ → List ℕ
end_line_on n p rest = close_on n (end_on p rest)

-- the lines of a bundle of this name, flag and root: none where the root is no table
abbrev pub lines_of : Spelling → List ℕ → Bool → Tree → List ℕ
lines_of f name fallback (string s) = []
lines_of f name fallback (alias s) = []
lines_of f name fallback (array ts) = []
lines_of f name fallback (table es) = printed_bundle f name fallback es
lines_of f name fallback (binary bs) = []
lines_of f name fallback (integer n) = []
lines_of f name fallback (int_vector ns) = []

-- a text as a string, where it has no more bytes than a limit, or nothing where it has more
abbrev pub IsTextWithin : ℕ → List ℕ → Option (String Global) → Type 0
IsTextWithin limit text found =
    MatchOption found (limit < length text) (λ s. (string_bytes s ≡ text) × (length text ≤ limit))
