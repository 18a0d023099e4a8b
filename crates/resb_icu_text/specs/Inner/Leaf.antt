-- What the content of a group without items is, up to its `}`, and the errors where none stands.
use Rattle.std.specs.Prelude.{◌≡◌, ◌≢◌, ◌+◌, ◌*◌, ◌<◌, ◌≤◌, ℕ, List, length, slice_index}
use Rattle.std.specs.declared.alloc.Global.{Global}
use Rattle.std.specs.declared.vec.Vec.{Vec}
use Rattle.resb_grammar.specs.Ascii as ascii
use Rattle.resb_icu_text.specs.Inner.Reach.{reach}
use Rattle.resb_tree.specs.Tree.{Tree}
use Rattle.resb_icu_grammar.specs.declared.group_kind.IcuKind.{IcuKind as Kind}
use Rattle.resb_icu_grammar.specs.Blanks.{Skip}
use Rattle.resb_icu_grammar.specs.Groups.{LeafContent, Numbers}
use Rattle.resb_icu_grammar.specs.Limit.{leaf_bytes}
use Rattle.resb_icu_grammar.specs.Machine.{Waiting, in_typed, reading_at}
use Rattle.resb_grammar.specs.Limit.{number_bytes}
use Rattle.resb_tree.specs.View.{tree_of}
use Rattle.resb_tree.specs.declared.resource.Resource.{Resource}
use Rattle.resb_icu_grammar.specs.declared.expected.IcuExpected.TheVariants as expect
use Rattle.resb_icu_text.specs.Borrowed.{KeepsSlices}
use Rattle.resb_icu_text.specs.Inner.Quota.{TakesBytes, StopsAt}
use Rattle.resb_icu_text.specs.declared.quota.Quota.{Quota}
use Rattle.resb_icu_text.specs.declared.error.IcuTextError.{IcuTextError}

-- a `}` stands at this place, up to which a reading has looked
pub record IsBrace (text : List ℕ) (at to : ℕ) : Type 0 where
  pub same : to ≡ at
  pub closes : slice_index text at ≡ ascii.right_brace
  pub fits : at < length text
  pub here : reach text at ≡ at

-- no `}` stands there, and the error says that one was expected
pub record WantsBrace (text : List ℕ) (at : ℕ) (e : IcuTextError) : Type 0 where
  pub none : slice_index text at ≢ ascii.right_brace
  pub is : e ≡ record { position = at; expected = expect.RightBrace }

-- neither a comma nor a `}` stands there, and the error says that one was expected
pub record WantsCommaOrBrace (text : List ℕ) (at : ℕ) (e : IcuTextError) : Type 0 where
  pub no_comma : slice_index text at ≢ ascii.comma
  pub none : slice_index text at ≢ ascii.right_brace
  pub is : e ≡ record { position = at; expected = expect.CommaOrRightBrace }

-- content of this type stands there up to a `}`
pub record Leaf (text : List ℕ) (from : ℕ) (kind : Kind) (to : ℕ) (t : Tree) : Type 0 where
  pub content : LeafContent text from to kind t
  pub closes : slice_index text to ≡ ascii.right_brace

-- numbers stand there up to a `}`
pub record Vector (text : List ℕ) (from to : ℕ) (ns : List ℕ) : Type 0 where
  pub numbers : Numbers text from to ns
  pub closes : slice_index text to ≡ ascii.right_brace

-- the `}`, or the place behind one comma and blanks
pub data IsBehindNumber (text : List ℕ) (at to : ℕ) : Type 0 where
  at_brace : slice_index text at ≡ ascii.right_brace → to ≡ at → IsBehindNumber text at to
  at_comma : slice_index text at ≡ ascii.comma → Skip text (at + 1) to → IsBehindNumber text at to

-- the content of a group of this type stands there up to the `}` at that place, its resource keeps
-- the slices, and what it makes is taken
pub record IsReadLeaf (text : List ℕ) (from : ℕ) (kind : Kind) (p q : Quota) (r : ℕ × Resource)
    : Type 0 where
  pub leaf : Leaf text from kind r.0 (tree_of r.1)
  pub takes : TakesBytes p q (leaf_bytes p.weights (tree_of r.1))
  pub slices : KeepsSlices text r.1
  pub order : from ≤ r.0
  pub fits : r.0 < length text

-- a reading stops that stands in a group of this type
abbrev pub LeafStops : List ℕ → ℕ → Kind → Quota → Quota → IcuTextError → Type 0
LeafStops text from kind p q e =
    (ws : List Waiting) (ks : List (List ℕ))
    → StopsAt text p q (reading_at ws ks (in_typed kind) from) e

-- numbers stand there up to the `}` at that place, and each was taken
pub record IsVector (text : List ℕ) (from : ℕ) (p q : Quota) (r : ℕ × Vec ℕ Global) : Type 0 where
  pub vector : Vector text from r.0 r.1.items
  pub takes : TakesBytes p q (number_bytes * length r.1.items)
  pub order : from ≤ r.0
  pub fits : r.0 < length text
