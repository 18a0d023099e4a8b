-- Where a person may look for the cause of a refusal that shows far behind it.
--     long_string_in f text n    the last string in quotes that spans lines before a place of a
--                                text of this form: its end may be missing
--     outdent_in f text n        the first line before it that is indented too little for the group
--                                it stands in: a `}` may be missing before it
use Rattle.std.specs.Prelude.{ℕ, zero, suc, Bool, true, false, ◌&&◌, ◌||◌, ◌==◌, not}
use Rattle.std.specs.Prelude.{nat_le, nat_lt}
use Rattle.std.specs.Prelude.{List, [], ◌∷◌, ◌++◌, ◌-◌, length, take, slice_index, slice_get}
use Rattle.std.specs.Prelude.{if◌then◌else◌, Option, Some, None}
use Rattle.resb_grammar.specs.Ascii.{quote, slash, left_brace, right_brace, space, tab, line_feed}
use Rattle.resb_grammar.specs.ByteRuns.{is_white}
use Rattle.resb_diagnostics.specs.Braces.{Form, mode_in}

-- the one that there is, or else the other
abbrev pub or_else : Option ℕ → Option ℕ → Option ℕ
or_else None other = other
or_else (Some n) other = Some n

-- the quote that began the string in which the byte at a place stands, if it stands in one
abbrev pub quote_at : {M : Type 0} → Form M → List ℕ → ℕ → Option ℕ
quote_at f text zero = None
quote_at f text (suc n) =
    if f.has_tokens (mode_in f text (suc n)) then None
    else (if f.has_tokens (mode_in f text n) && slice_index text n == quote then Some n
    else quote_at f text n)

-- the quote of the last string that has a line feed before a place
abbrev pub long_string_in : {M : Type 0} → Form M → List ℕ → ℕ → Option ℕ
long_string_in f text zero = None
long_string_in f text (suc n) =
    if slice_index text n == line_feed then or_else (quote_at f text n) (long_string_in f text n)
    else long_string_in f text n

-- a space or a tab
abbrev pub is_blank : ℕ → Bool
is_blank b = b == space || b == tab

-- behind a byte nothing but blanks stands before a place in its line: the byte ends a line, or is a
-- blank where that was so before
abbrev pub first_behind : ℕ → Bool → Bool
first_behind b first = b == line_feed || (is_blank b && first)

-- nothing but blanks stands before a place in its line
abbrev pub is_first : List ℕ → ℕ → Bool
is_first text zero = true
is_first text (suc n) = first_behind (slice_index text n) (is_first text n)

-- the indent behind a byte: none behind the end of a line, and one more behind a blank that has
-- nothing but blanks before it
abbrev pub indent_behind : ℕ → Bool → ℕ → ℕ
indent_behind b first indent =
    if b == line_feed then 0 else (if is_blank b && first then suc indent else indent)

-- how many blanks the line of a place begins with, as far as it goes before that
abbrev pub indent_at : List ℕ → ℕ → ℕ
indent_at text zero = 0
indent_at text (suc n) =
    indent_behind (slice_index text n) (is_first text n) (indent_at text n)

-- the indents of open groups behind a byte among tokens: `{` adds that of its line, and `}` takes
-- the last one away
abbrev pub open_behind : ℕ → ℕ → List ℕ → List ℕ
open_behind b indent indents =
    if b == left_brace then indents ++ indent ∷ []
    else (if b == right_brace then take (length indents - 1) indents else indents)

-- how far the lines are indented on which the groups open that a place stands in, the innermost
-- last
abbrev pub indents_at : {M : Type 0} → Form M → List ℕ → ℕ → List ℕ
indents_at f text zero = []
indents_at f text (suc n) =
    if f.has_tokens (mode_in f text n)
    then open_behind (slice_index text n) (indent_at text n) (indents_at f text n)
    else indents_at f text n

-- a byte that may begin an entry or a member: no white one, and no slash of a comment
abbrev pub begins_entry : ℕ → Bool
begins_entry b = not (is_white b || b == slash)

-- what begins with this byte is indented too little for a group that opens on a line of that
-- indent: an entry is to stand further right than that line, and a `}` no less far
abbrev pub stands_out : ℕ → ℕ → Option ℕ → Bool
stands_out b indent None = false
stands_out b indent (Some outer) =
    if b == right_brace then nat_lt indent outer else begins_entry b && nat_le indent outer

-- at a place among tokens a line begins that is indented too little for the group it stands in
abbrev pub is_outdent : {M : Type 0} → Form M → List ℕ → ℕ → Bool
is_outdent f text n =
    let indents = indents_at f text n in
    (f.has_tokens (mode_in f text n) && is_first text n)
    && stands_out (slice_index text n) (indent_at text n) (slice_get indents (length indents - 1))

-- the first such place of so many bytes
abbrev pub outdent_in : {M : Type 0} → Form M → List ℕ → ℕ → Option ℕ
outdent_in f text zero = None
outdent_in f text (suc n) =
    or_else (outdent_in f text n) (if is_outdent f text n then Some n else None)
