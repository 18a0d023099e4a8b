-- Where a place of a text is, as a person counts: lines, and characters of a line.
use Rattle.std.specs.Prelude.{ℕ, zero, suc, Bool, true, false, ◌||◌, ◌==◌, nat_lt, List}
use Rattle.std.specs.Prelude.{slice_index}
use Rattle.resb_grammar.specs.Ascii.{line_feed}

-- each byte begins a character but those from 128 to 191, which go on with one
abbrev pub begins_character : ℕ → Bool
begins_character b = nat_lt b 128 || nat_lt 191 b

-- the line behind a byte: the next one, if that ends a line
abbrev pub line_behind : Bool → ℕ → ℕ
line_behind true line = suc line
line_behind false line = line

-- the line of the place behind so many bytes of a text: 1, and one more behind each line feed
abbrev pub line_at : List ℕ → ℕ → ℕ
line_at text zero = 1
line_at text (suc n) = line_behind (slice_index text n == line_feed) (line_at text n)

-- the column behind a byte: 1 if that ends a line, and one more if it begins a character
abbrev pub column_behind : Bool → Bool → ℕ → ℕ
column_behind true begins column = 1
column_behind false true column = suc column
column_behind false false column = column

-- the column of the place behind so many bytes of a text: 1 where a line begins, and one more
-- behind each byte that begins a character
abbrev pub column_at : List ℕ → ℕ → ℕ
column_at text zero = 1
column_at text (suc n) =
    let b = slice_index text n in
    column_behind (b == line_feed) (begins_character b) (column_at text n)
