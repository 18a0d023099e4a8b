-- What the code keeps of the groups that are open, beside their items.
use Rattle.std.specs.Prelude.{◌≡◌, ◌≤◌, Bool, true, false, ◌&&◌, not, nat_lt, List, []}
use Rattle.std.specs.Prelude.{◌∷◌, ◌++◌, map, length, take, drop, reverse}
use Rattle.resb_diagnostics.specs.Pieces.{PlacedText, TextPiece, a_string, a_type, opening, closing}
use Rattle.resb_diagnostics.specs.Pieces.{a_comma}
use Rattle.resb_diagnostics.specs.Groups.{GroupItem, string_item, group_item, OpenGroup, Nesting}
use Rattle.resb_diagnostics.specs.Groups.{is_string_piece, named_behind, with_one_more}
use Rattle.resb_diagnostics.specs.Warnings.{is_array, is_nothing}
use Rattle.resb_diagnostics.specs.declared.text_pieces.StringAt.{StringAt}
use Rattle.resb_diagnostics.specs.declared.text_pieces.Piece.{Piece as CodePiece}
use Rattle.resb_diagnostics.specs.declared.text_pieces.Piece.TheVariants as piece
use Rattle.resb_diagnostics.specs.declared.named.Named.{Named}
use Rattle.resb_diagnostics.specs.declared.groups.Shape.{Shape}
use Rattle.resb_diagnostics.specs.declared.groups.Shape.TheVariants as shape
use Rattle.resb_diagnostics.specs.declared.groups.Group.{Group as CodeGroup}
use Rattle.resb_diagnostics.specs.declared.groups.Groups.{Groups as CodeGroups}

-- a string of the code, as the definitions have it
abbrev pub placed_text_of : StringAt → PlacedText
placed_text_of s = record { bytes = s.content.now; place = s.place }

-- a piece of the code, as the definitions have it
abbrev pub text_piece_of : CodePiece → TextPiece
text_piece_of (piece.String s) = a_string (placed_text_of s)
text_piece_of (piece.Type name) = a_type name.now
text_piece_of piece.Open = opening
text_piece_of (piece.Close n) = closing n
text_piece_of (piece.Comma n) = a_comma n

-- what items are: pairs with these keys; the same, and then a key; anything else
pub data Pairing : Type 0 where
  pairs : List PlacedText → Pairing
  key : List PlacedText → PlacedText → Pairing
  other : Pairing

-- what items are with one more
abbrev pub pairing_behind : GroupItem → Pairing → Pairing
pairing_behind (string_item s) (pairs ks) = key ks s
pairing_behind group_item (key ks s) = pairs (ks ++ s ∷ [])
pairing_behind _ _ = other

-- what these items are
abbrev pub pairing_of : List GroupItem → Pairing
pairing_of [] = pairs []
pairing_of (x ∷ xs) = pairing_behind x (pairing_of xs)

-- what the items of a group of the code are, by the last string and the group's keys
abbrev pub pairing_in : Shape → StringAt → List StringAt → Pairing
pairing_in shape.Pairs s ks = pairs (map placed_text_of ks)
pairing_in shape.Key s ks = key (map placed_text_of ks) (placed_text_of s)
pairing_in shape.Other s ks = other

-- items are pairs
abbrev pub is_pairs : Shape → Bool
is_pairs shape.Pairs = true
is_pairs _ = false

-- what is known of a group: what it names as its type, and what its items are
pub record Level : Type 0 where
  pub named : Named
  pub pairing : Pairing

-- what is known of this group
abbrev pub level_of : OpenGroup → Level
level_of g = record { named = g.named; pairing = pairing_of g.items }

-- a group of the code is this open one, where this is the last string, and its keys are these from
-- its place on
pub record IsShown (x : CodeGroup) (s : StringAt) (ks : List StringAt) (g : OpenGroup) :
    Type 0 where
  pub fits : x.keys_from ≤ length ks
  pub level : record { named = x.named; pairing = pairing_in x.shape s (drop x.keys_from ks) }
      ≡ level_of g

-- groups of the code, from the inside out, are these open ones, each as it will be once the group
-- within it is an item of it; these are all their keys
abbrev pub AreAround : List CodeGroup → List StringAt → List OpenGroup → Type 0
AreAround [] ks [] = Unit
AreAround (x ∷ xs) ks (g ∷ gs) =
    ((s : StringAt) → IsShown x s ks (with_one_more group_item g))
    × AreAround xs (take x.keys_from ks) gs
AreAround _ ks _ = ⊥

-- the code's innermost group
abbrev pub inner_group : CodeGroups → CodeGroup
inner_group c = record { named = c.named; shape = c.shape; keys_from = c.keys_from }

-- the keys of the code's innermost group
abbrev pub inner_keys : CodeGroups → List StringAt
inner_keys c = drop c.keys_from c.keys.items

-- the code knows the open groups
pub record ShowsOpen (c : CodeGroups) (g : Nesting) : Type 0 where
  pub inner : IsShown (inner_group c) c.last c.keys.items g.inner
  pub around : AreAround (reverse c.around.items) (take c.keys_from c.keys.items) g.around

-- the code knows the last piece and the open groups
pub record ShowsNesting (c : CodeGroups) (g : Nesting) : Type 0 where
  pub string : c.is_behind_string ≡ is_string_piece g.last
  pub next : c.next ≡ named_behind g.last
  pub groups : ShowsOpen c g

-- a list is empty
abbrev pub is_nil : {A : Type 0} → List A → Bool
is_nil [] = true
is_nil (x ∷ xs) = false

-- the code's innermost group is no `:array`, and has pairs or nothing
abbrev pub may_be_table : CodeGroups → Bool
may_be_table c = not (is_array c.named) && is_pairs c.shape

-- the code's innermost group has pairs, and is no `:array`
abbrev pub has_pairs : CodeGroups → Bool
has_pairs c = may_be_table c && not (is_nil (inner_keys c))

-- the code's innermost group has no type and no items, and is neither the root nor the text
abbrev pub has_empty_group : CodeGroups → Bool
has_empty_group c =
    (is_nothing c.named && (is_pairs c.shape && is_nil (inner_keys c)))
    && nat_lt 1 (length c.around.items)

-- items are pairs, and then a string
abbrev pub is_key : Shape → Bool
is_key shape.Key = true
is_key _ = false

-- the code's innermost group has no type, and pairs, and then a string
abbrev pub has_lone : CodeGroups → Bool
has_lone c = is_nothing c.named && (is_key c.shape && not (is_nil (inner_keys c)))
