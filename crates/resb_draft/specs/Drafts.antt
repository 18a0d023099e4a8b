-- The trees for which drafts stand, and when one is ready.
--     texts_ascend ks      each text is before the next, in the order of their bytes
--     is_leaf t            a tree without others inside
--     all_stand ..         what pieces stand for, each made of those before it
--     tree_at d n          the tree for which piece n stands
--     is_whole d n         whether that tree is whole: all that it is made of is there
--     draft_tree d         the tree for which a draft stands
--     is_ready d           whether it is whole
--     IsMade d n t         piece n stands for that tree, which is whole
--     Keeps old new        what is whole stays so
--     EndsInEntries ..     a draft is another one with entries put behind its members and keys
use Rattle.std.specs.Prelude.{◌≡◌, ℕ, ◌+◌, Bool, true, false, ◌&&◌, nat_le, List, [], ◌∷◌, ◌++◌}
use Rattle.std.specs.Prelude.{map}
use Rattle.std.specs.Prelude.{get_or, length, slice_range}
use Rattle.std.specs.Borrow.{Bor}
use Rattle.std.specs.List.{zip}
use Rattle.std.specs.Ordering.{is_lt}
use Rattle.resb_tree.specs.Borrowing.{all_true}
use Rattle.resb_tree.specs.Maps.{text_cmp}
use Rattle.resb_tree.specs.Tree.{Tree, string, integer, array, table, trees_of, entries_of}
use Rattle.resb_tree.specs.View.{tree_of}
use Rattle.resb_draft.specs.declared.draft.Draft.{Draft}
use Rattle.resb_draft.specs.declared.draft.Members.{Members}
use Rattle.resb_draft.specs.declared.draft.Piece.{Piece}
use Rattle.resb_draft.specs.declared.draft.Piece.TheVariants as piece

-- borrowed texts as texts
abbrev pub texts : List (Bor (List ℕ)) → List (List ℕ)
texts ks = map (λ k. k.now) ks

-- each text is before the next, in the order of their bytes
abbrev pub texts_ascend : List (List ℕ) → Bool
texts_ascend [] = true
texts_ascend (k ∷ []) = true
texts_ascend (k ∷ l ∷ ks) = is_lt (text_cmp k l) && texts_ascend (l ∷ ks)

-- a tree without others inside
abbrev pub is_leaf : Tree → Bool
is_leaf (array ts) = false
is_leaf (table es) = false
is_leaf _ = true

-- what stands at a number where no piece does: a tree that isn't whole
abbrev pub nothing : Tree × Bool
nothing = (string [], false)

-- the trees of the pieces of these numbers
abbrev pub trees_at : List (Tree × Bool) → List ℕ → List Tree
trees_at ms ns = map (λ n. (get_or ms n nothing).0) ns

-- whether they are whole
abbrev pub all_whole : List (Tree × Bool) → List ℕ → Bool
all_whole ms ns = all_true (map (λ n. (get_or ms n nothing).1) ns)

-- the part of a list that members take
abbrev pub part : {X : Type 0} → List X → ℕ → Members → List X
part xs from m = slice_range xs from (from + m.count)

-- the part is inside the list
abbrev pub is_inside : {X : Type 0} → List X → ℕ → Members → Bool
is_inside xs from m = nat_le (from + m.count) (length xs)

-- the tree for which a piece stands, and whether it is whole, with these members and keys, where
-- the pieces before it stand for these
abbrev pub piece_meaning : List ℕ → List (List ℕ) → List (Tree × Bool) → Piece → Tree × Bool
piece_meaning ns ks ms (piece.String s) = (string s.now, true)
piece_meaning ns ks ms (piece.Integer n) = (integer n, true)
piece_meaning ns ks ms (piece.Leaf r) = (tree_of r.value, is_leaf (tree_of r.value))
piece_meaning ns ks ms (piece.Array m) = (
  array (trees_of (trees_at ms (part ns m.from m))),
  is_inside ns m.from m && all_whole ms (part ns m.from m),
)
piece_meaning ns ks ms (piece.Table m k) = (
  table (entries_of (zip (part ks k m) (trees_at ms (part ns m.from m)))),
  (is_inside ns m.from m && is_inside ks k m)
      && (texts_ascend (part ks k m) && all_whole ms (part ns m.from m)),
)

-- what pieces stand for, each made of those before it, behind what others stand for
abbrev pub all_stand : List ℕ → List (List ℕ) → List (Tree × Bool) → List Piece
    → List (Tree × Bool)
all_stand ns ks ms [] = ms
all_stand ns ks ms (p ∷ ps) = all_stand ns ks (ms ++ piece_meaning ns ks ms p ∷ []) ps

-- what the pieces of a draft stand for
abbrev pub pieces_stand : Draft → List (Tree × Bool)
pieces_stand d = all_stand d.members.items (texts d.keys.items) [] d.pieces.items

-- the tree for which the piece of this number stands
abbrev pub tree_at : Draft → ℕ → Tree
tree_at d n = (get_or (pieces_stand d) n nothing).0

-- whether that tree is whole: all that it is made of stands before it, and keys ascend
abbrev pub is_whole : Draft → ℕ → Bool
is_whole d n = (get_or (pieces_stand d) n nothing).1

-- the tree for which a draft stands
abbrev pub draft_tree : Draft → Tree
draft_tree d = tree_at d d.root

-- whether it is whole
abbrev pub is_ready : Draft → Bool
is_ready d = is_whole d d.root

-- the piece of this number stands for that tree, which is whole
abbrev pub IsMade : Draft → ℕ → Tree → Type 0
IsMade d n t = (tree_at d n ≡ t) × (is_whole d n ≡ true)

-- what is whole stays so, and stands for the same tree
abbrev pub Keeps : Draft → Draft → Type 0
Keeps old new = (n : ℕ) → is_whole old n ≡ true → IsMade new n (tree_at old n)

-- a draft is another one, which has so many members and keys, and of the same pieces, with the keys
-- of these entries and the numbers of their values put behind
abbrev pub EndsInEntries : Draft → ℕ → ℕ → List (Bor (List ℕ) × ℕ) → Draft → Type 0
EndsInEntries before members keys ps d =
    (members ≡ length before.members.items) × (keys ≡ length before.keys.items)
    × (d.pieces.items ≡ before.pieces.items)
    × (d.members.items ≡ before.members.items ++ map (λ p. p.1) ps)
    × (d.keys.items ≡ before.keys.items ++ map (λ p. p.0) ps)
