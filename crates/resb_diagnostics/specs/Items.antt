-- What stands right in a group of a text, and which group is open at a place, apart from the walks
-- that `groups_at` and `icu_groups_at` are.
--     Stand piece from to items    these items stand right between two places
--     IsOpenAt piece n group       this group is open at a place
-- A text is given by its pieces: the one that ends at a place, if one does; in a text of ICU's form
-- a string in quotes is taken at its first quote.
use Rattle.std.specs.Prelude.{◌≡◌, ◌<◌, ◌⊎◌, ℕ, suc, Bool, true, false, List, [], ◌∷◌}
use Rattle.std.specs.Prelude.{Option, Some, None}
use Rattle.resb_diagnostics.specs.Pieces.{PlacedText, TextPiece, a_string, a_type, opening, closing}
use Rattle.resb_diagnostics.specs.Pieces.{a_comma, piece_at}
use Rattle.resb_diagnostics.specs.Groups.{GroupItem, string_item, group_item, comma_item, OpenGroup}
use Rattle.resb_diagnostics.specs.Groups.{named_behind}
use Rattle.resb_diagnostics.specs.IcuKeys.{icu_piece_at}
use Rattle.resb_diagnostics.specs.declared.named.Named.TheVariants as named

-- no piece, or the name of a type
abbrev pub is_no_item : Option TextPiece → Bool
is_no_item None = true
is_no_item (Some (a_type name)) = true
is_no_item _ = false

-- these items stand right between two places, the last one first: none; or items, and then a place
-- at which none ends, a string, a comma, or a group with all that stands in it; and from the text's
-- start on also a `}` that ends no group, which is no item
pub data Stand (piece : ℕ → Option TextPiece) : ℕ → ℕ → List GroupItem → Type 0 where
  none : (n : ℕ) → Stand piece n n []
  no_item : (from n : ℕ) (items : List GroupItem) → Stand piece from n items
      → is_no_item (piece n) ≡ true → Stand piece from (suc n) items
  string : (from n : ℕ) (items : List GroupItem) (s : PlacedText) → Stand piece from n items
      → piece n ≡ Some (a_string s) → Stand piece from (suc n) (string_item s ∷ items)
  comma : (from n m : ℕ) (items : List GroupItem) → Stand piece from n items
      → piece n ≡ Some (a_comma m) → Stand piece from (suc n) (comma_item ∷ items)
  group : (from n m k : ℕ) (items inner : List GroupItem) → Stand piece from n items
      → piece n ≡ Some opening → Stand piece (suc n) m inner → piece m ≡ Some (closing k)
      → Stand piece from (suc m) (group_item ∷ items)
  stray : (n m : ℕ) (items : List GroupItem) → Stand piece 0 n items
      → piece n ≡ Some (closing m) → Stand piece 0 (suc n) items

-- this piece is the last one before a place
pub record IsRightBefore {A : Type 0} (piece : ℕ → Option A) (n : ℕ) (p : A) : Type 0 where
  pub at : ℕ
  pub before : at < n
  pub ends : piece at ≡ Some p
  pub none : (k : ℕ) → at < k → k < n → piece k ≡ None

-- the last piece before a place is this one, or there is none
abbrev pub IsLastBefore : {A : Type 0} → (ℕ → Option A) → ℕ → Option A → Type 0
IsLastBefore piece n (Some p) = IsRightBefore piece n p
IsLastBefore piece n None = (k : ℕ) → k < n → piece k ≡ None

-- a group whose `{` stands at one place is open at another: it names the type before its `{`, and
-- these items stand right in it
pub record IsOpenFrom (piece : ℕ → Option TextPiece) (p n : ℕ) (group : OpenGroup) : Type 0 where
  pub opens : piece p ≡ Some opening
  pub last : Option TextPiece
  pub before : IsLastBefore piece p last
  pub names : group.named ≡ named_behind last
  pub items : Stand piece (suc p) n group.items

-- no group is open at a place: the text itself is taken for one
pub record IsOutside (piece : ℕ → Option TextPiece) (n : ℕ) (group : OpenGroup) : Type 0 where
  pub names : group.named ≡ named.Nothing
  pub items : Stand piece 0 n group.items

-- this is the group that is open at a place, or the text itself
abbrev pub IsOpenAt : (ℕ → Option TextPiece) → ℕ → OpenGroup → Type 0
IsOpenAt piece n g = ((p : ℕ) × IsOpenFrom piece p n g) ⊎ IsOutside piece n g

-- a group stands between two places: its `{` at one, its `}`, which is this piece, at the other,
-- and items between
pub record IsGroupTo (end : TextPiece) (piece : ℕ → Option TextPiece) (p q : ℕ) : Type 0 where
  pub opens : piece p ≡ Some opening
  pub items : List GroupItem
  pub stand : Stand piece (suc p) q items
  pub closes : piece q ≡ Some end

-- a group of a text stands between two places
abbrev pub IsGroup : List ℕ → ℕ → ℕ → Type 0
IsGroup text p q = IsGroupTo (closing q) (piece_at text) p q

-- the same of a text of ICU's form, where it is nothing to the groups at which place a `}` stands
abbrev pub IsIcuGroup : List ℕ → ℕ → ℕ → Type 0
IsIcuGroup text p q = IsGroupTo (closing 0) (icu_piece_at text) p q

-- each `}` of the first n bytes of a text ends a group
abbrev pub EndsGroups : List ℕ → ℕ → Type 0
EndsGroups text n =
    (q m : ℕ) → q < n → piece_at text q ≡ Some (closing m)
    → (p : ℕ) × (g : OpenGroup) × IsOpenFrom (piece_at text) p q g
