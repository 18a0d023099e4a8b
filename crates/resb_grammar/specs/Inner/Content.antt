-- What the content of a group makes, before the `}` of the group.
use Rattle.std.specs.Prelude.{ℕ, ◌*◌, length}
use Rattle.resb_tree.specs.Tree.{Tree, int_vector}
use Rattle.resb_grammar.specs.Limit.{number_bytes}

-- the content of a group that holds no items: 8 bytes for each number of a vector
abbrev pub content_bytes : Tree → ℕ
content_bytes (int_vector ns) = number_bytes * length ns
content_bytes _ = 0
