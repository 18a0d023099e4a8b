-- The warnings of a text: of backslashes, of strings in a row, of keys that stand twice, of empty
-- groups, of commas between pairs and strings alone behind them, and of numbers.
--     warned text n   those of the first n bytes
-- In a text that is a bundle, a group of pairs that is not `:array` is a table.
use Rattle.std.specs.Prelude.{ℕ, zero, suc, Bool, true, false, ◌&&◌, ◌||◌, not, ◌==◌, List}
use Rattle.std.specs.Prelude.{◌*◌, ◌+◌, ◌-◌, ◌^◌, ◌%◌, nat_lt, nat_le, ℤ, fold}
use Rattle.std.specs.Prelude.{[], ◌∷◌, ◌++◌, slice_index, if◌then◌else◌, Option, Some, None, nat_eq}
use Rattle.std.specs.Cmp.Lexicographic.{pointwise}
use Rattle.resb_diagnostics.specs.Braces.{mode_at, backslash}
use Rattle.resb_diagnostics.specs.Pieces.{PlacedText, TextPiece, a_string, closing, a_comma}
use Rattle.resb_diagnostics.specs.Pieces.{piece_at}
use Rattle.resb_diagnostics.specs.Groups.{GroupItem, string_item, OpenGroup, Nesting}
use Rattle.resb_diagnostics.specs.Groups.{is_string_piece}
use Rattle.resb_diagnostics.specs.Groups.{pair_keys, groups_at}
use Rattle.resb_diagnostics.specs.declared.braces.Mode.{Mode}
use Rattle.resb_diagnostics.specs.declared.braces.Mode.TheVariants as mode
use Rattle.resb_diagnostics.specs.declared.warning.Reason.{Reason}
use Rattle.resb_diagnostics.specs.declared.warning.Reason.TheVariants as reason
use Rattle.resb_diagnostics.specs.declared.warning.Warning.{Warning}
use Rattle.resb_diagnostics.specs.declared.named.Named.{Named}
use Rattle.resb_diagnostics.specs.declared.named.Named.TheVariants as named
use Rattle.resb_grammar.specs.Ascii.{quote, dash, digit_0}
use Rattle.resb_grammar.specs.Lexical.{negated}
use Rattle.resb_tree.specs.Int28.{signed}

-- a warning at a place
abbrev pub warning_at : Reason → ℕ → Warning
warning_at r n = record { place = n; reason = r }

-- a backslash stands between the last quote before a place and that place
abbrev pub has_backslash : List ℕ → ℕ → Bool
has_backslash text zero = false
has_backslash text (suc n) =
    if slice_index text n == quote then false
    else (slice_index text n == backslash || has_backslash text n)

-- what is in quotes
abbrev pub is_quoted : Mode → Bool
is_quoted mode.Quotes = true
is_quoted _ = false

-- the first backslash of a string in quotes stands at this place
abbrev pub is_first_backslash : List ℕ → ℕ → Bool
is_first_backslash text n =
    is_quoted (mode_at text n) && slice_index text n == backslash && not (has_backslash text n)

-- the warning of a first backslash
abbrev pub of_backslash : List ℕ → ℕ → List Warning
of_backslash text n =
    if is_first_backslash text n then warning_at reason.Backslash n ∷ [] else []

-- the place of the first of these keys that has these bytes
abbrev pub first_place : List ℕ → List PlacedText → Option ℕ
first_place bytes [] = None
first_place bytes (k ∷ ks) =
    if pointwise nat_eq bytes k.bytes then Some k.place else first_place bytes ks

-- the warning of a key, where an equal one stands before it at this place
abbrev pub of_key : ℕ → Option ℕ → List Warning
of_key n None = []
of_key n (Some first) = warning_at (reason.RepeatedKey first) n ∷ []

-- the warnings of keys, in order, behind these that stand before them
abbrev pub of_keys : List PlacedText → List PlacedText → List Warning
of_keys before [] = []
of_keys before (k ∷ ks) =
    of_key k.place (first_place k.bytes before) ++ of_keys (before ++ k ∷ []) ks

-- the warnings of the keys of a group, if it has some
abbrev pub of_some_keys : Option (List PlacedText) → List Warning
of_some_keys None = []
of_some_keys (Some keys) = of_keys [] keys

-- a group of this type is an array, whatever stands in it
abbrev pub is_array : Named → Bool
is_array named.Array = true
is_array _ = false

-- the warnings of a group whose `}` stands: those of its keys, if it is a table
abbrev pub of_group : OpenGroup → List Warning
of_group g = if is_array g.named then [] else of_some_keys (pair_keys g.items)

-- it names no type
abbrev pub is_nothing : Named → Bool
is_nothing named.Nothing = true
is_nothing _ = false

-- there are no items
abbrev pub has_none : List GroupItem → Bool
has_none [] = true
has_none (x ∷ xs) = false

-- a group without a type, in which nothing stands
abbrev pub is_empty : OpenGroup → Bool
is_empty g = is_nothing g.named && has_none g.items

-- a group that stands in others that are these is neither the root nor the text itself
abbrev pub is_below_root : List OpenGroup → Bool
is_below_root (outer ∷ next ∷ around) = true
is_below_root _ = false

-- the warning of an empty group at its `}`
abbrev pub of_empty : ℕ → Nesting → List Warning
of_empty n g =
    if is_empty g.inner && is_below_root g.around then warning_at reason.EmptyGroup n ∷ [] else []

-- the warning of a comma behind these keys of pairs
abbrev pub of_comma_behind : ℕ → Option (List PlacedText) → List Warning
of_comma_behind n (Some (k ∷ ks)) = warning_at reason.CommaBehindPairs n ∷ []
of_comma_behind n _ = []

-- the warning of a comma: behind pairs of a string and a group, in a group that isn't `:array`
abbrev pub of_comma : ℕ → OpenGroup → List Warning
of_comma n g = if is_array g.named then [] else of_comma_behind n (pair_keys g.items)

-- a string that stands behind these keys of pairs
abbrev pub behind_pairs : PlacedText → Option (List PlacedText) → Option PlacedText
behind_pairs s (Some (k ∷ ks)) = Some s
behind_pairs s _ = None

-- the string behind pairs of a string and a group with which items end, if they end so
abbrev pub lone_string : List GroupItem → Option PlacedText
lone_string (string_item s ∷ xs) = behind_pairs s (pair_keys xs)
lone_string _ = None

-- the warning of such a string
abbrev pub of_some_lone : Option PlacedText → List Warning
of_some_lone None = []
of_some_lone (Some s) = warning_at reason.LoneString s.place ∷ []

-- the warning of a group whose `}` stands: of a string alone behind pairs, if it names no type
abbrev pub of_lone : OpenGroup → List Warning
of_lone g = if is_nothing g.named then of_some_lone (lone_string g.items) else []

-- the warning of a string: right behind another one
abbrev pub of_string : PlacedText → Option TextPiece → List Warning
of_string s last =
    if is_string_piece last then warning_at reason.StringsInRow s.place ∷ [] else []

-- a number's bytes without its sign
abbrev pub unsigned : List ℕ → List ℕ
unsigned [] = []
unsigned (b ∷ bs) = if b == dash then bs else b ∷ bs

-- the number that digits say
abbrev pub number_of : List ℕ → ℕ
number_of digits = fold (λ n b. n * 10 + (b - digit_0)) 0 digits

-- digits that begin with a 0 and say more than 7: as octal ones they say another number, or none
abbrev pub is_octal : List ℕ → Bool
is_octal [] = false
is_octal (b ∷ bs) = b == digit_0 && nat_le 8 (number_of (b ∷ bs))

-- the warning of a number that another reader takes for an octal one
abbrev pub of_octal : PlacedText → List Warning
of_octal s = if is_octal (unsigned s.bytes) then warning_at reason.LeadingZero s.place ∷ [] else []

-- a dash stands before the digits
abbrev pub is_negative : List ℕ → Bool
is_negative [] = false
is_negative (b ∷ bs) = b == dash

-- what is kept of a number, negative or not, that a text may have, and that 28 bits don't hold: its
-- lowest 28 bits, with bit 27 as the sign
abbrev pub cut : Bool → ℕ → Option ℤ
cut true n =
    if nat_lt (2 ^ 27) n && nat_le n (2 ^ 31) then Some (signed (negated n % 2 ^ 28)) else None
cut false n =
    if nat_le (2 ^ 28) n && nat_lt n (2 ^ 32) then Some (signed (n % 2 ^ 28)) else None

-- the warning of a number at a place of which only this is kept
abbrev pub of_kept : ℕ → Option ℤ → List Warning
of_kept n None = []
of_kept n (Some z) = warning_at (reason.CutNumber z) n ∷ []

-- the warning of an integer that 28 bits don't hold
abbrev pub of_cut : PlacedText → List Warning
of_cut s = of_kept s.place (cut (is_negative s.bytes) (number_of (unsigned s.bytes)))

-- the warnings of a number, in a group that names this type
abbrev pub of_number : PlacedText → Named → List Warning
of_number s named.Integer = of_octal s ++ of_cut s
of_number s named.IntVector = of_octal s
of_number s _ = []

-- the warnings of a piece: of a string by what stands before it and by its group, of a group at its
-- `}`, and of a comma
abbrev pub of_piece : TextPiece → Nesting → List Warning
of_piece (a_string s) g = of_string s g.last ++ of_number s g.inner.named
of_piece (closing n) g = of_group g.inner ++ (of_lone g.inner ++ of_empty n g)
of_piece (a_comma n) g = of_comma n g.inner
of_piece _ g = []

-- the same of a place where a piece may end
abbrev pub of_end : Option TextPiece → Nesting → List Warning
of_end None g = []
of_end (Some p) g = of_piece p g

-- the warnings of the first n bytes: at each of them of a backslash, and of the piece that ends
abbrev pub warned : List ℕ → ℕ → List Warning
warned text zero = []
warned text (suc n) =
    warned text n ++ (of_backslash text n ++ of_end (piece_at text n) (groups_at text n))
