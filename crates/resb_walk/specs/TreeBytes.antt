-- How many bytes a tree takes in memory, as they are counted.
--     piece_bytes x           for one piece
--     tree_bytes xs           for all pieces of a tree
use Rattle.std.specs.Prelude.{ℕ, ◌+◌, ◌*◌, List, length, sum_by}
use Rattle.resb_tree.specs.Tree.{string, alias, int_vector}
use Rattle.resb_tree.specs.Weights.{resource_weight, table_weight, entry_weight}
use Rattle.resb_tree.specs.Weights.{text_byte_weight, number_weight}
use Rattle.resb_walk.specs.Pieces.{Piece, leaf_piece, filled_table}
use Rattle.resb_walk.specs.Pieces.{key_piece}

-- 72 for each resource; 3 more for each byte of a string or of an alias's path, 4 for each number
-- of a vector, 1024 for a table that has entries; and 192 for each entry. Binaries and keys are
-- slices of the file.
abbrev pub piece_bytes : Piece → ℕ
piece_bytes (leaf_piece (string s)) = resource_weight + text_byte_weight * length s
piece_bytes (leaf_piece (alias s)) = resource_weight + text_byte_weight * length s
piece_bytes (leaf_piece (int_vector ns)) = resource_weight + number_weight * length ns
piece_bytes filled_table = resource_weight + table_weight
piece_bytes (key_piece k) = entry_weight
piece_bytes _ = resource_weight

-- the sum over all pieces
abbrev pub tree_bytes : List Piece → ℕ
tree_bytes xs = sum_by piece_bytes xs
