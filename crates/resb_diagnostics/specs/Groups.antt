-- The groups of a text, and the keys of those that are tables.
--     groups_at text n   the groups that are open behind n bytes, with their items so far
--     pair_keys items    the keys of a group, if its items are pairs of a key and a group
use Rattle.std.specs.Prelude.{ℕ, zero, suc, Bool, true, false, ◌||◌, if◌then◌else◌, List, []}
use Rattle.std.specs.Prelude.{◌∷◌, ◌++◌, codes}
use Rattle.std.specs.Prelude.{Option, Some, None, nat_eq}
use Rattle.std.specs.Option.{option_map}
use Rattle.std.specs.Cmp.Lexicographic.{pointwise}
use Rattle.resb_diagnostics.specs.Pieces.{PlacedText, TextPiece, a_string, a_type, opening, closing}
use Rattle.resb_diagnostics.specs.Pieces.{a_comma}
use Rattle.resb_diagnostics.specs.Pieces.{piece_at}
use Rattle.resb_diagnostics.specs.declared.named.Named.{Named}
use Rattle.resb_diagnostics.specs.declared.named.Named.TheVariants as named

-- what stands right in a group: a string, a group, or a comma
pub data GroupItem : Type 0 where
  string_item : PlacedText → GroupItem
  group_item : GroupItem
  comma_item : GroupItem

-- an open group: what it names as its type, and its items so far, the last one first
pub record OpenGroup : Type 0 where
  pub named : Named
  pub items : List GroupItem

-- the last piece before a place; the innermost group that is open there, and the groups around it,
-- from the inside out, the last of which is the text itself
pub record Nesting : Type 0 where
  pub last : Option TextPiece
  pub inner : OpenGroup
  pub around : List OpenGroup

-- one item more
abbrev pub with_one_more : GroupItem → OpenGroup → OpenGroup
with_one_more x g = record { named = g.named; items = x ∷ g.items }

-- what a name of a type names
abbrev pub named_by : List ℕ → Named
named_by name =
    if pointwise nat_eq name (codes "array") then named.Array
    else (if pointwise nat_eq name (codes "int") || pointwise nat_eq name (codes "integer")
    then named.Integer
    else (if pointwise nat_eq name (codes "intvector") then named.IntVector else named.Another))

-- what a group names whose `{` stands behind this piece
abbrev pub named_behind : Option TextPiece → Named
named_behind (Some (a_type name)) = named_by name
named_behind _ = named.Nothing

-- this piece is a string
abbrev pub is_string_piece : Option TextPiece → Bool
is_string_piece (Some (a_string s)) = true
is_string_piece _ = false

-- a `}` makes the innermost group an item of the one around it
abbrev pub behind_closing : ℕ → OpenGroup → List OpenGroup → Nesting
behind_closing n inner [] = record { last = Some (closing n); inner = inner; around = [] }
behind_closing n inner (outer ∷ around) =
    record { last = Some (closing n); inner = with_one_more group_item outer; around = around }

-- the groups behind a piece
abbrev pub behind_piece : TextPiece → Nesting → Nesting
behind_piece (a_string s) g =
    record
    { last = Some (a_string s); inner = with_one_more (string_item s) g.inner; around = g.around }
behind_piece (a_type name) g =
    record { last = Some (a_type name); inner = g.inner; around = g.around }
behind_piece opening g = record {
  last = Some opening;
  inner = record { named = named_behind g.last; items = [] };
  around = g.inner ∷ g.around;
}
behind_piece (closing n) g = behind_closing n g.inner g.around
behind_piece (a_comma n) g =
    record { last = Some (a_comma n); inner = with_one_more comma_item g.inner; around = g.around }

-- the groups behind a place where a piece may end
abbrev pub groups_behind : Option TextPiece → Nesting → Nesting
groups_behind None g = g
groups_behind (Some p) g = behind_piece p g

-- a text begins without a piece, outside of all groups
abbrev pub outside : Nesting
outside = record { last = None; inner = record { named = named.Nothing; items = [] }; around = [] }

-- the groups that are open behind so many bytes, from the inside out: what each names as its type,
-- and what stood right in it
abbrev pub groups_at : List ℕ → ℕ → Nesting
groups_at text zero = outside
groups_at text (suc n) = groups_behind (piece_at text n) (groups_at text n)

-- the keys of a group's items in order, if these are pairs of a string and a group, without commas
abbrev pub pair_keys : List GroupItem → Option (List PlacedText)
pair_keys [] = Some []
pair_keys (group_item ∷ string_item s ∷ xs) = option_map (λ ks. ks ++ s ∷ []) (pair_keys xs)
pair_keys _ = None
