-- The numbers of pieces in the order in which they are laid.
use Rattle.std.proofs.Common.{◌≡◌, ℕ, ◌+◌, true, List, [], ◌∷◌, ◌++◌, map, refl, sym, ◌∙◌}
use Rattle.std.proofs.Common.{ap, ◌≤◌, drop, get_or, reverse}
use Rattle.std.proofs.lemmas.List.{at_drop_more, get_or_default, reverse-append}
use Rattle.std.specs.List.{flat_map}
use Rattle.std.specs.Prelude.{slice_range}
use Rattle.resb_tree.specs.LayingOrder.{own_keys}
use Rattle.std.proofs.lemmas.Bool.{and_from, and_parts}
use Rattle.std.proofs.lemmas.List.{map_push, map-append}
use Rattle.resb_tree.specs.Borrowing.{all_true}
use Rattle.resb_tree.specs.Tree.{Tree}
use Rattle.resb_draft.specs.Drafts.{tree_at, is_whole, texts}
use Rattle.resb_draft.specs.Pieces.{are_pieces}
use Rattle.resb_draft.specs.declared.draft.Draft.{Draft}
use Rattle.resb_draft.specs.declared.draft.Piece.{Piece}
use Rattle.resb_draft.specs.declared.draft.Piece.TheVariants as piece
use Rattle.resb_draft.proofs.Lists.{all_append, all_parts, part_and_back}
use Rattle.resb_draft.proofs.Whole.{whole_inside, whole_piece}

-- one number more
pub trees_push : (d : Draft) (old new : List ℕ) (n : ℕ) → new ≡ old ++ n ∷ []
    → map (tree_at d) new ≡ map (tree_at d) old ++ tree_at d n ∷ []
trees_push d old new n e = ap (map (tree_at d)) e ∙ map_push (tree_at d) old n

-- they are whole if it is
pub whole_push : (d : Draft) (old new : List ℕ) (n : ℕ) → new ≡ old ++ n ∷ []
    → all_true (map (is_whole d) old) ≡ true → is_whole d n ≡ true
    → all_true (map (is_whole d) new) ≡ true
whole_push d old new n e h k =
    ap (λ l. all_true (map (is_whole d) l)) e
    ∙ ap all_true (map_push (is_whole d) old n)
    ∙ all_append (map (is_whole d) old) (is_whole d n ∷ []) h (and_from _ _ k refl)

-- the last of some numbers, and those before it
pub whole_pop : (d : Draft) (old new : List ℕ) (n : ℕ) → old ≡ new ++ n ∷ []
    → all_true (map (is_whole d) old) ≡ true
    → (all_true (map (is_whole d) new) ≡ true) × (is_whole d n ≡ true)
whole_pop d old new n e h =
    let both = all_parts (map (is_whole d) new) (is_whole d n ∷ [])
    (ap all_true (sym (map_push (is_whole d) new n))
    ∙ ap (λ l. all_true (map (is_whole d) l)) (sym e) ∙ h) in
    (both.0, (and_parts _ _ both.1).0)

-- numbers one behind another
pub trees_more : (d : Draft) (old new more : List ℕ) → new ≡ old ++ more
    → map (tree_at d) new ≡ map (tree_at d) old ++ map (tree_at d) more
trees_more d old new more e = ap (map (tree_at d)) e ∙ map-append (tree_at d) old more

-- they are whole if both are
pub whole_more : (d : Draft) (old new more : List ℕ) → new ≡ old ++ more
    → all_true (map (is_whole d) old) ≡ true → all_true (map (is_whole d) more) ≡ true
    → all_true (map (is_whole d) new) ≡ true
whole_more d old new more e h k =
    ap (λ l. all_true (map (is_whole d) l)) e
    ∙ ap all_true (map-append (is_whole d) old more)
    ∙ all_append (map (is_whole d) old) (map (is_whole d) more) h k

-- a piece in front of those that fit trees
pub piece_before : (d : Draft) (passed : List Tree) (n left : ℕ) → left ≡ n + 1
    → is_whole d n ≡ true → are_pieces (drop left d.pieces.items) (reverse passed) ≡ true
    → are_pieces (drop n d.pieces.items) (reverse (passed ++ tree_at d n ∷ [])) ≡ true
piece_before d passed n left at whole fit =
    let ps = d.pieces.items in
    let none : Piece = piece.Array (record { from = 0; count = 0 }) in
    let inside = whole_inside d n whole in
    let p = get_or ps n none in
    (λ i. are_pieces (at_drop_more (λ qs. qs) ps n none inside i)
    (reverse-append passed (tree_at d n ∷ []) i))
    ∙ and_from _ _ (whole_piece d n p (get_or_default ps n none p inside) whole)
    (ap (λ k. are_pieces (drop k ps) (reverse passed)) (sym at) ∙ fit)

-- its keys in front of theirs
pub keys_before : (d : Draft) (passed : List Tree) (n from to : ℕ) → from ≤ to
    → slice_range (texts d.keys.items) from to ≡ own_keys (tree_at d n)
    → drop to (texts d.keys.items) ≡ flat_map own_keys (reverse passed)
    → drop from (texts d.keys.items)
    ≡ flat_map own_keys (reverse (passed ++ tree_at d n ∷ []))
keys_before d passed n from to order own behind =
    sym (part_and_back (texts d.keys.items) from to order)
    ∙ (λ i. own i ++ behind i)
    ∙ ap (flat_map own_keys) (sym (reverse-append passed (tree_at d n ∷ [])))
