-- Types of groups, as a text names them. The types themselves are those of the code.
pub use Rattle.resb_grammar.specs.declared.group_kind.Kind.{Kind}
pub use Rattle.resb_grammar.specs.declared.group_kind.Kind.TheVariants.{
  String as string_kind,
  Array as array_kind,
  Table as table_kind,
  Binary as binary_kind,
  Integer as integer_kind,
  IntVector as vector_kind,
}
use Rattle.std.specs.Prelude.{◌≡◌, ℕ, ◌+◌, ◌⊎◌, Bool, true, false, List, [], ◌∷◌, Some, slice_get}
use Rattle.std.specs.Prelude.{slice_index, slice_range, codes}
use Rattle.resb_grammar.specs.Ascii as ascii
use Rattle.resb_grammar.specs.ByteRuns.{is_word, Run}
use Rattle.resb_grammar.specs.Lexical.{Skip}

-- this is a name of the type
abbrev pub Names : List ℕ → Kind → Type 0
Names w string_kind = w ≡ codes "string"
Names w array_kind = w ≡ codes "array"
Names w table_kind = w ≡ codes "table"
Names w binary_kind = (w ≡ codes "binary") ⊎ (w ≡ codes "bin")
Names w integer_kind = (w ≡ codes "integer") ⊎ (w ≡ codes "int")
Names w vector_kind = w ≡ codes "intvector"

-- `:` directly followed by a name, after which no word character stands
pub record TypeName (text : List ℕ) (from to : ℕ) (name : List ℕ) : Type 0 where
  pub colon : slice_index text from ≡ ascii.colon
  pub run : Run is_word text (from + 1) to
  pub means : name ≡ slice_range text (from + 1) to

-- the type of a group: `:` directly followed by its name, behind which no word character stands
pub record GroupType (text : List ℕ) (from to : ℕ) (kind : Kind) : Type 0 where
  pub name : List ℕ
  pub stands : TypeName text from to name
  pub names : Names name kind

-- a type, its `{`, and the discardable text around that
pub record TypedOpening (text : List ℕ) (from : ℕ) (kind : Kind) (to : ℕ) : Type 0 where
  pub ends : ℕ
  pub brace : ℕ
  pub named : GroupType text from ends kind
  pub between : Skip text ends brace
  pub opens : slice_index text brace ≡ ascii.left_brace
  pub after : Skip text (brace + 1) to

-- these bytes stand here
abbrev pub Stands : List ℕ → ℕ → List ℕ → Type 0
Stands text at [] = Unit {0}
Stands text at (b ∷ bs) = (slice_get text at ≡ Some b) × Stands text (at + 1) bs

-- `(nofallback)` stands here
abbrev pub NoFallback : List ℕ → ℕ → Type 0
NoFallback text at = Stands text at (codes "(nofallback)")

-- the root's type, as far as it goes, and whether fallback stays on: none, `:table`, or
-- `:table(nofallback)`
pub data RootType (text : List ℕ) (from to : ℕ) : Bool → Type 0 where
  table_type : TypeName text from to (codes "table") → (NoFallback text to → ⊥)
      → RootType text from to true
  no_fallback_type : (i : ℕ) → TypeName text from i (codes "table") → NoFallback text i
      → to ≡ i + 12 → RootType text from to false
