-- What pieces add up to.
--     resource_count_in x, table_count_in x, ..  how many of a kind the piece x is, or has
--     count_of xs             how many resources there are among the pieces
--     fitting n               the number, if it fits in 64 bits
--     AddsUp s xs             the sums s are those of the pieces xs
use Rattle.std.specs.Prelude.{◌≡◌, ℕ, ◌^◌, List, length, Option, Some, None, nat_lt, sum_by}
use Rattle.std.specs.Prelude.{if◌then◌else◌}
use Rattle.resb_tree.specs.Tree.{string, alias, binary, int_vector}
use Rattle.resb_walk.specs.Pieces.{Piece, leaf_piece, filled_table}
use Rattle.resb_walk.specs.Pieces.{key_piece}
use Rattle.resb_walk.specs.declared.sums.Sums.{Sums}

-- 1 for a resource
abbrev pub resource_count_in : Piece → ℕ
resource_count_in (key_piece k) = 0
resource_count_in _ = 1

-- how many resources there are among pieces
abbrev pub count_of : List Piece → ℕ
count_of xs = sum_by resource_count_in xs

-- 1 for a table that has entries
abbrev pub table_count_in : Piece → ℕ
table_count_in filled_table = 1
table_count_in _ = 0

-- 1 for the key of an entry
abbrev pub entry_count_in : Piece → ℕ
entry_count_in (key_piece k) = 1
entry_count_in _ = 0

-- the bytes of a key
abbrev pub key_bytes_in : Piece → ℕ
key_bytes_in (key_piece k) = length k
key_bytes_in _ = 0

-- the UTF-8 bytes of a string, or of an alias's path
abbrev pub text_bytes_in : Piece → ℕ
text_bytes_in (leaf_piece (string s)) = length s
text_bytes_in (leaf_piece (alias s)) = length s
text_bytes_in _ = 0

-- the bytes of a binary
abbrev pub binary_bytes_in : Piece → ℕ
binary_bytes_in (leaf_piece (binary s)) = length s
binary_bytes_in _ = 0

-- the numbers of a vector
abbrev pub number_count_in : Piece → ℕ
number_count_in (leaf_piece (int_vector ns)) = length ns
number_count_in _ = 0

-- a number of 64 bits, or none
abbrev pub fitting : ℕ → Option ℕ
fitting n = if nat_lt n (2 ^ 64) then Some n else None

-- each sum, or none where it doesn't fit in 64 bits
pub record AddsUp (s : Sums) (xs : List Piece) : Type 0 where
  pub tables : s.tables ≡ fitting (sum_by table_count_in xs)
  pub entries : s.entries ≡ fitting (sum_by entry_count_in xs)
  pub key_bytes : s.key_bytes ≡ fitting (sum_by key_bytes_in xs)
  pub text_bytes : s.text_bytes ≡ fitting (sum_by text_bytes_in xs)
  pub binary_bytes : s.binary_bytes ≡ fitting (sum_by binary_bytes_in xs)
  pub numbers : s.numbers ≡ fitting (sum_by number_count_in xs)
