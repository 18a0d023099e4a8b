-- What warnings print as, and the lines that tell those of a text.
--     reason_message r        what a reason prints as
--     warning_line text w     the line that tells a warning of a text, and a line feed
--     warning_lines text ws   the lines of these
--     is_over limit n         so many bytes are more than the limit, if there is one
use Rattle.std.specs.Prelude.{ℕ, Bool, false, List, ◌∷◌, [], ◌++◌, length, min, codes, nat_lt}
use Rattle.std.specs.Prelude.{Option, Some, None}
use Rattle.std.specs.Fmt.{decimal, signed_decimal}
use Rattle.std.specs.List.{flat_map}
use Rattle.resb_diagnostics.specs.Location.{line_at, column_at}
use Rattle.resb_diagnostics.specs.declared.warning.Reason.{Reason}
use Rattle.resb_diagnostics.specs.declared.warning.Reason.TheVariants as reason
use Rattle.resb_diagnostics.specs.declared.warning.Warning.{Warning}

-- what a reason prints as
abbrev pub reason_message : Reason → List ℕ
reason_message (reason.RepeatedKey first) =
    codes "duplicate key, first at byte " ++ (decimal first ++ codes "; genrb refuses that")
reason_message reason.Backslash =
    codes "this backslash is a character here, and an escape for genrb"
reason_message reason.StringsInRow =
    codes "this string is an item of its own here; genrb joins it to the one before"
reason_message reason.CommaBehindPairs =
    codes "pairs with commas are an Array; genrb refuses this"
reason_message reason.LoneString =
    codes "this string has no group, so that all are an Array; genrb refuses this"
reason_message reason.EmptyGroup =
    codes "the empty group that ends here is a Table, and an Array for genrb"
reason_message reason.LeadingZero =
    codes "this number is decimal here; genrb takes its 0 for that of an octal one"
reason_message (reason.CutNumber kept) =
    codes "this number has more than 28 bits; " ++ (signed_decimal kept ++ codes " is kept")
reason_message reason.JoinedOverLine =
    codes "this string is joined to the one before; a comma would part them"
reason_message reason.UnquotedGroup =
    codes "this group is a string of its own; braces that are meant need quotes"
reason_message reason.OctalNumber = codes "the 0 makes this number octal"
reason_message reason.UnknownEscape =
    codes "no escape begins so; the backslash is dropped, and its character stays"
reason_message reason.TextBehind =
    codes "the bundle has ended before this; nothing from here on is read"
reason_message reason.MixedQuotes =
    codes "this goes on with the string in quotes before it; a comma or a quote may be missing"

-- the line of a warning for this reason at this line and column
abbrev pub line_of : ℕ → ℕ → Reason → List ℕ
line_of line column r =
    codes "line " ++ (decimal line ++ (codes ", column " ++ (decimal column ++ (codes ": "
    ++ (reason_message r ++ 10 ∷ [])))))

-- the line that tells a warning of a text: where its place is, or the text's end, if that is first
abbrev pub warning_line : List ℕ → Warning → List ℕ
warning_line text w =
    let n = min w.place (length text) in line_of (line_at text n) (column_at text n) w.reason

-- the lines of these warnings
abbrev pub warning_lines : List ℕ → List Warning → List ℕ
warning_lines text ws = flat_map (warning_line text) ws

-- so many bytes are more than the limit, if there is one
abbrev pub is_over : Option ℕ → ℕ → Bool
is_over None n = false
is_over (Some most) n = nat_lt most n
