-- What a reading of a word goes through: its resources and its keys, in their order.
--     Holds p w xs            these are the pieces of the tree at the word w, those of entries that
--                             are replaced later included
--     pieces t                the pieces of a tree
use Rattle.std.specs.Prelude.{◌≡◌, ℕ, List, [], ◌∷◌, ◌++◌, Some}
use Rattle.resb_tree.specs.Tree.{Tree, string, array, table}
use Rattle.resb_tree.specs.Tree.{Trees, no_trees, more_trees, Entries, no_entries, entry}
use Rattle.resb_format.specs.Lookups.{text_in, key_in, index_in}
use Rattle.resb_format.specs.Parts.{Parts}
use Rattle.resb_format.specs.Content.{Member, word, unit, leaf, list, entry_list, content_at}

-- a resource, without its members, or a key
pub data Piece : Type 0 where
  -- a resource that has no members by its type
  leaf_piece : Tree → Piece
  array_piece : Piece
  -- a table without entries, and one with some
  empty_table : Piece
  filled_table : Piece
  -- the key of an entry
  key_piece : List ℕ → Piece

-- a table's own piece, by its entries
abbrev pub table_piece : {A : Type 0} → List A → Piece
table_piece [] = empty_table
table_piece (e ∷ es) = filled_table

module _ (p : Parts) where
  mutual
    -- what a reading of a word goes through, in the order of the file: a resource, and behind it
    -- what its members hold. Entries that are replaced later are among them
    pub data Holds : ℕ → List Piece → Type 0 where
      holds_leaf : {w : ℕ} {t : Tree} → content_at p w ≡ Some (leaf t) → Holds w (leaf_piece t ∷ [])
      holds_list : {w : ℕ} {ms : List Member} {xs : List Piece} → content_at p w ≡ Some (list ms)
          → HoldsEach ms xs → Holds w (array_piece ∷ xs)
      holds_entries : {w : ℕ} {es : List (ℕ × Member)} {xs : List Piece}
          → content_at p w ≡ Some (entry_list es) → HoldsEachEntry es xs
          → Holds w (table_piece es ∷ xs)

    -- a member: a word, or a string of a short collection
    pub data HoldsMember : Member → List Piece → Type 0 where
      holds_word : {w : ℕ} {xs : List Piece} → Holds w xs → HoldsMember (word w) xs
      holds_unit : {u : ℕ} {s : List ℕ} → text_in p (index_in p u) ≡ Some s
          → HoldsMember (unit u) (leaf_piece (string s) ∷ [])

    -- members, one after another
    pub data HoldsEach : List Member → List Piece → Type 0 where
      holds_none : HoldsEach [] []
      holds_more : {m : Member} {ms : List Member} {xs ys : List Piece} → HoldsMember m xs
          → HoldsEach ms ys → HoldsEach (m ∷ ms) (xs ++ ys)

    -- entries, one after another: of each its key, and what its member holds
    pub data HoldsEachEntry : List (ℕ × Member) → List Piece → Type 0 where
      holds_no_entry : HoldsEachEntry [] []
      holds_entry : {m : Member} {at : ℕ} {es : List (ℕ × Member)} {key : List ℕ}
          {xs ys : List Piece} → key_in p at ≡ Some key → HoldsMember m xs
          → HoldsEachEntry es ys → HoldsEachEntry ((at, m) ∷ es) (key_piece key ∷ xs ++ ys)

-- a table's own piece in a tree, by its entries
abbrev pub entries_piece : Entries → Piece
entries_piece no_entries = empty_table
entries_piece (entry k t es) = filled_table

abbrev mutual
  -- the pieces of a tree: those of a table in the order of its keys
  pub pieces : Tree → List Piece
  pieces (array ts) = array_piece ∷ pieces_of_each ts
  pieces (table es) = entries_piece es ∷ pieces_of_entries es
  pieces t = leaf_piece t ∷ []

  -- the pieces of trees, one after another
  pub pieces_of_each : Trees → List Piece
  pieces_of_each no_trees = []
  pieces_of_each (more_trees t ts) = pieces t ++ pieces_of_each ts

  -- of each entry its key, and the pieces of its tree
  pub pieces_of_entries : Entries → List Piece
  pieces_of_entries no_entries = []
  pieces_of_entries (entry k t es) = key_piece k ∷ pieces t ++ pieces_of_entries es
