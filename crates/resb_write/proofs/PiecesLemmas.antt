-- Pieces that fit trees.
use Rattle.std.proofs.Common.{◌≡◌, ℕ, zero, suc, ◌<◌, List, [], ◌∷◌, true, refl, sym, length}
use Rattle.std.proofs.Common.{get_or, arith}
use Rattle.std.proofs.lemmas.Bool.{and_parts, false≢true, eqb-true}
use Rattle.std.specs.Prelude.{nat_eq}
use Rattle.resb_tree.specs.LayingOrder.{values_of, entry_keys}
use Rattle.resb_tree.specs.Tree.{Tree, string, alias, array, table, binary, integer, int_vector}
use Rattle.resb_draft.proofs.EntriesLemmas.{texts_sorted}
use Rattle.resb_draft.specs.Pieces.{is_piece, are_pieces, has_entries}
use Rattle.resb_draft.specs.declared.draft.Piece.{Piece}
use Rattle.resb_write.specs.Inner.Nodes.{IsTableOf, no_tree}

-- there are as many trees as pieces that fit them
pub pieces_long : (ps : List Piece) (ts : List Tree) → are_pieces ps ts ≡ true
    → length ts ≡ length ps
pieces_long [] [] h = refl
pieces_long [] (t ∷ ts) h = absurd (false≢true h)
pieces_long (p ∷ ps) [] h = absurd (false≢true h)
pieces_long (p ∷ ps) (t ∷ ts) h =
    omega (arith, pieces_long ps ts (and_parts (is_piece p t) _ h).1)

-- a piece fits the tree at its place
pub piece_at : (ps : List Piece) (ts : List Tree) (i : ℕ) (p : Piece) → are_pieces ps ts ≡ true
    → i < length ps → is_piece (get_or ps i p) (get_or ts i no_tree) ≡ true
piece_at [] ts i p h k = absurd (omega (arith, k))
piece_at (q ∷ ps) [] i p h k = absurd (false≢true h)
piece_at (q ∷ ps) (t ∷ ts) zero p h k = (and_parts (is_piece q t) _ h).0
piece_at (q ∷ ps) (t ∷ ts) (suc i) p h k =
    piece_at ps ts i p (and_parts (is_piece q t) _ h).1 (omega (arith, k))

-- a table that a piece fits
pub entries_fit : (n : ℕ) (t : Tree) → has_entries n t ≡ true → IsTableOf n t
entries_fit n (string s) h = absurd (false≢true h)
entries_fit n (alias s) h = absurd (false≢true h)
entries_fit n (array ts) h = absurd (false≢true h)
entries_fit n (table es) h =
    let both = and_parts (nat_eq n (length (values_of es))) _ h in
    record {
      entries = es;
      is = refl;
      many = sym (eqb-true n _ both.0);
      ascend = texts_sorted (entry_keys es) both.1;
    }
entries_fit n (binary s) h = absurd (false≢true h)
entries_fit n (integer k) h = absurd (false≢true h)
entries_fit n (int_vector s) h = absurd (false≢true h)
