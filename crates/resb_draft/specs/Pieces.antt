-- What a piece says of the tree for which it stands.
--     is_piece p t      what a piece says fits that tree
--     are_pieces ps ts  each piece fits the tree at its place
use Rattle.std.specs.Prelude.{ℕ, Bool, true, false, ◌&&◌, nat_eq, List, [], ◌∷◌, length}
use Rattle.resb_tree.specs.Equality.{tree_eq}
use Rattle.resb_tree.specs.LayingOrder.{array_members, values_of, entry_keys}
use Rattle.resb_tree.specs.Tree.{Tree, string, integer, array, table}
use Rattle.resb_tree.specs.View.{tree_of}
use Rattle.resb_draft.specs.Drafts.{is_leaf, texts_ascend}
use Rattle.resb_draft.specs.declared.draft.Piece.{Piece}
use Rattle.resb_draft.specs.declared.draft.Piece.TheVariants as piece

-- the tree is an array of so many members
abbrev pub has_members : ℕ → Tree → Bool
has_members n (array ts) = nat_eq n (length (array_members ts))
has_members n _ = false

-- the tree is a table of so many entries, whose keys ascend strictly
abbrev pub has_entries : ℕ → Tree → Bool
has_entries n (table es) = nat_eq n (length (values_of es)) && texts_ascend (entry_keys es)
has_entries n _ = false

-- what a piece says fits that tree: its text, its bytes or numbers, or how many members it has
abbrev pub is_piece : Piece → Tree → Bool
is_piece (piece.String s) t = tree_eq (string s.now) t
is_piece (piece.Integer n) t = tree_eq (integer n) t
is_piece (piece.Leaf r) t = is_leaf (tree_of r.value) && tree_eq (tree_of r.value) t
is_piece (piece.Array m) t = has_members m.count t
is_piece (piece.Table m k) t = has_entries m.count t

-- each piece fits the tree at its place
abbrev pub are_pieces : List Piece → List Tree → Bool
are_pieces [] [] = true
are_pieces [] (t ∷ ts) = false
are_pieces (p ∷ ps) [] = false
are_pieces (p ∷ ps) (t ∷ ts) = is_piece p t && are_pieces ps ts
