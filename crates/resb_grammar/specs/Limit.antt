-- How many bytes of memory a reading of a text makes, as they are counted, and a limit for them.
--     tree_limit n            n bytes where a tree is made; draft_limit n, where a draft is
--     made_by w s t           what a token adds by these weights, in the state in which it stands
--     Makes w text n at s     a reading that has made n bytes comes to this place in this state
--     MadeWithin text limit   the text is read to its end, and no more than the limit is made
--     MakesMore text limit    a reading comes to a token by which more than the limit is made
use Rattle.std.specs.Prelude.{◌≡◌, ℕ, ◌+◌, ◌*◌, ◌<◌, ◌≤◌, List, ◌∷◌, length}
use Rattle.resb_tree.specs.Tree.{Tree, string, binary, int_vector}
use Rattle.resb_tree.specs.Weights.{resource_weight, table_weight, entry_weight, text_byte_weight}
use Rattle.resb_tree.specs.Weights.{number_weight}
use Rattle.resb_grammar.specs.declared.limit.Limit.{Limit}
use Rattle.resb_grammar.specs.declared.limit.Weights.{Weights}
use Rattle.resb_grammar.specs.Items.{Item, Shape, a_table}
use Rattle.resb_grammar.specs.GroupTypes.{Kind, array_kind, table_kind}
use Rattle.resb_grammar.specs.Machine.{Token, a_text, a_number, opening, closing, Frame, Title}
use Rattle.resb_grammar.specs.Machine.{State, named, titled, inside, typed, filled, in_vector}
use Rattle.resb_grammar.specs.Machine.{finished, shape_in, Path, begun, went, Move}

-- so many bytes where a tree is made, which are counted as those of a file's tree are
abbrev pub tree_limit : ℕ → Limit
tree_limit n = record {
  bytes = n;
  weights = record { group = resource_weight; entry = entry_weight; table = table_weight };
}

-- so many bytes where a draft is made: 88 for a group, 112 for an entry, 64 for a table
abbrev pub draft_limit : ℕ → Limit
draft_limit n = record { bytes = n; weights = record { group = 88; entry = 112; table = 64 } }

-- a string among items: an entry, since it may be the key of one, and its bytes
abbrev pub string_bytes : Weights → List ℕ → ℕ
string_bytes w s = w.entry + text_byte_weight * length s

-- a number of a vector: 4 bytes where it is read, and 4 in the file
abbrev pub number_bytes : ℕ
number_bytes = 2 * number_weight

-- the memory that is asked for a vector or a binary alone: 32 bytes beside what it holds
abbrev pub request_bytes : ℕ
request_bytes = 32

-- the `}` of a group that holds no items: the group, and the bytes of a string; for a vector and a
-- binary the memory that is asked for it, and 1 for each byte of a binary
abbrev pub leaf_bytes : Weights → Tree → ℕ
leaf_bytes w (string s) = w.group + text_byte_weight * length s
leaf_bytes w (binary s) = w.group + request_bytes + length s
leaf_bytes w (int_vector ns) = w.group + request_bytes
leaf_bytes w _ = w.group

-- the `{` behind a type: the group, where it holds items
abbrev pub begun_bytes : Weights → Kind → ℕ
begun_bytes w array_kind = w.group
begun_bytes w table_kind = w.group
begun_bytes w _ = 0

-- items of this shape, once their `}` stands: a table that has entries
abbrev pub shape_bytes : Weights → Shape → List Item → ℕ
shape_bytes w a_table (x ∷ xs) = w.table
shape_bytes w _ _ = 0

-- the `}` of a group that holds items
abbrev pub closing_bytes : Weights → Frame → ℕ
closing_bytes w f = shape_bytes w (shape_in f.body f.items) f.items

-- what a token adds: a group for the `{` of one that holds items; an entry for a string among
-- items, and 3 bytes for each of its own; a table for the `}` of one that has entries; 8 bytes for
-- a number of a vector; and for the `}` of a group that holds no items the group, and 3 bytes for
-- each of a string, 32 for a vector or a binary, and 1 for each byte of a binary
abbrev pub made_by : Weights → State → Token → ℕ
made_by w (named name) opening = w.group
made_by w (titled title) opening = w.group
made_by w (inside o) (a_text s) = string_bytes w s
made_by w (inside o) opening = w.group
made_by w (inside o) closing = closing_bytes w o.frame
made_by w (typed kind o) opening = begun_bytes w kind
made_by w (filled t o) closing = leaf_bytes w t
made_by w (in_vector place ns o) (a_number v) = number_bytes
made_by w (in_vector place ns o) closing = w.group + request_bytes
made_by w _ _ = 0

-- what the tokens of a path add up to
abbrev pub path_bytes : Weights → (text : List ℕ) (n at : ℕ) (s : State) → Path text n at s → ℕ
path_bytes w text _ _ _ (begun at skip) = 0
path_bytes w text _ _ _ (went n from to s u path step) =
    path_bytes w text n from s path + made_by w s step.move.token

-- a reading that has made so many bytes comes to this place in this state
pub record Makes (w : Weights) (text : List ℕ) (bytes at : ℕ) (s : State) : Type 0 where
  pub tokens : ℕ
  pub path : Path text tokens at s
  pub sum : bytes ≡ path_bytes w text tokens at s path

-- the text is read to its end, and no more bytes than the limit are made
pub record MadeWithin (text : List ℕ) (limit : Limit) : Type 0 where
  pub title : Title
  pub items : List Item
  pub bytes : ℕ
  pub made : Makes limit.weights text bytes (length text) (finished title items)
  pub within : bytes ≤ limit.bytes

-- a reading comes to a token that may stand there, by which more bytes than the limit are made
pub record MakesMore (text : List ℕ) (limit : Limit) : Type 0 where
  pub at : ℕ
  pub state : State
  pub bytes : ℕ
  pub ends : ℕ
  pub after : State
  pub made : Makes limit.weights text bytes at state
  pub move : Move text at state ends after
  pub more : limit.bytes < bytes + made_by limit.weights state move.token
