-- The bodies of a written file, one right behind another in laying order: what a layout implies of
-- the bytes of its tail and the units of its block.
--     TailBody at t body      the body of t in the tail, from byte `at` of the file's body
--     FillsTail at ts bytes   those bodies of the trees ts that stand in the tail are these bytes
--     BlockBody t us, FillsBlock ts us    the same of the units of the 16-bit block
use Rattle.std.specs.Prelude.{◌≡◌, ℕ, ◌+◌, ◌%◌, ◌<◌, List, [], ◌∷◌, ◌++◌, length}
use Rattle.resb_tree.specs.Tree.{Tree, alias, array, table, binary, int_vector, Trees, Entries}
use Rattle.resb_format.specs.Units.{units}
use Rattle.resb_layout.specs.Laid.{path_body, binary_body, words_body, near_table_body}
use Rattle.resb_layout.specs.Laid.{wide_table_body}

-- the body of a tree in the tail; all fillings are bytes 0xaa: up to the place of a binary's bytes,
-- behind these, and behind an even number of a table's 16-bit positions or of a path's units
pub data TailBody : ℕ → Tree → List ℕ → Type 0 where
  tail_bytes : {at : ℕ} {bytes : List ℕ} → 0 < length bytes
      → TailBody at (binary bytes) (binary_body at bytes)
  tail_path : {at : ℕ} {path : List ℕ} → 0 < length path
      → TailBody at (alias path) (path_body (units path))
  tail_numbers : {at : ℕ} {ns : List ℕ} → 0 < length ns
      → TailBody at (int_vector ns) (words_body ns)
  tail_array : {at : ℕ} {ts : Trees} (ws : List ℕ) → 0 < length ws
      → TailBody at (array ts) (words_body ws)
  tail_table : {at : ℕ} {es : Entries} (ps ws : List ℕ) → 0 < length ws
      → TailBody at (table es) (near_table_body ps ws)
  tail_wide_table : {at : ℕ} {es : Entries} (ps ws : List ℕ) → 0 < length ws
      → TailBody at (table es) (wide_table_body ps ws)

-- the bodies of the trees that have one in the tail are these bytes, without a gap, each from a
-- word on
pub data FillsTail : ℕ → List Tree → List ℕ → Type 0 where
  tail_ends : {at : ℕ} → FillsTail at [] []
  tail_without : {at : ℕ} {t : Tree} {ts : List Tree} {bytes : List ℕ} → FillsTail at ts bytes
      → FillsTail at (t ∷ ts) bytes
  tail_with : {at : ℕ} {t : Tree} {ts : List Tree} {body bytes : List ℕ} → at % 4 ≡ 0
      → TailBody at t body → FillsTail (at + length body) ts bytes
      → FillsTail at (t ∷ ts) (body ++ bytes)

-- the body of a tree in the 16-bit block: a count; a table's key positions, as units tell them; and
-- as many units of strings as are counted
pub data BlockBody : Tree → List ℕ → Type 0 where
  block_array : {ts : Trees} (n : ℕ) (os : List ℕ) → n ≡ length os → 0 < n
      → BlockBody (array ts) (n ∷ os)
  block_table : {es : Entries} (n : ℕ) (ps os : List ℕ) → n ≡ length os → 0 < n
      → BlockBody (table es) (n ∷ (ps ++ os))

-- the bodies of the trees that have one in the 16-bit block are these units, without a gap
pub data FillsBlock : List Tree → List ℕ → Type 0 where
  block_ends : FillsBlock [] []
  block_without : {t : Tree} {ts : List Tree} {us : List ℕ} → FillsBlock ts us
      → FillsBlock (t ∷ ts) us
  block_with : {t : Tree} {ts : List Tree} {body us : List ℕ} → BlockBody t body
      → FillsBlock ts us → FillsBlock (t ∷ ts) (body ++ us)
