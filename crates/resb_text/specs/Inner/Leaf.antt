-- Groups that hold no items, from after their `{` on.
use Rattle.std.specs.Prelude.{◌≡◌, ◌≢◌, ◌⊎◌, ℕ, ◌+◌, List, slice_index}
use Rattle.resb_grammar.specs.declared.group_kind.Kind.{Kind}
use Rattle.resb_grammar.specs.Ascii as ascii
use Rattle.resb_tree.specs.Tree.{Tree}
use Rattle.resb_grammar.specs.Lexical.{Skip}
use Rattle.resb_grammar.specs.Group.{LeafContent, Vector}
use Rattle.resb_grammar.specs.Machine.{Open, begun_as}
use Rattle.resb_grammar.specs.Limit.{Makes}
use Rattle.resb_grammar.specs.declared.limit.Weights.{Weights}
use Rattle.resb_grammar.specs.declared.expected.Expected.TheVariants as expect
use Rattle.resb_text.specs.Inner.Braces.{Closes}
use Rattle.resb_text.specs.Inner.Content.{IsPaired, tree_of_content}
use Rattle.resb_text.specs.Inner.Quota.{KeepsQuota}
use Rattle.resb_text.specs.Inner.Failing.{StuckAfter}
use Rattle.resb_text.specs.Refusal.{want_of_memory}
use Rattle.resb_text.specs.declared.content.Content.{Content}
use Rattle.resb_text.specs.declared.quota.Quota.{Quota}
use Rattle.resb_text.specs.declared.error.TextParserError.{TextParserError}

-- behind a number: the `}` stands right here, or a comma does, with the discardable text after it
abbrev pub IsBehindNumber : List ℕ → ℕ → ℕ → Type 0
IsBehindNumber text at to =
    (slice_index text at ≡ ascii.right_brace × to ≡ at)
    ⊎ (slice_index text at ≡ ascii.comma × Skip text (at + 1) to)

-- neither `}` nor a comma stands here, and the error says so
pub record IsUnended (text : List ℕ) (at : ℕ) (e : TextParserError) : Type 0 where
  pub none : slice_index text at ≢ ascii.right_brace
  pub no_comma : slice_index text at ≢ ascii.comma
  pub is : e ≡ record { position = at; expected = expect.RightBrace }

-- the content of a group of this type, and its `}`
pub record LeafGroup (text : List ℕ) (at to : ℕ) (kind : Kind) (tree : Tree) : Type 0 where
  pub ends : ℕ
  pub content : LeafContent text at ends kind tree
  pub closes : Closes text ends to

-- the group, and what it holds
pub record IsReadLeaf (text : List ℕ) (at to : ℕ) (kind : Kind) (c : Content) : Type 0 where
  pub group : LeafGroup text at to kind (tree_of_content c)
  pub paired : IsPaired c

-- wherever a group of this type has begun there, a reading gets stuck so, and makes nothing before
abbrev pub LeafFails : List ℕ → ℕ → Kind → TextParserError → Type 0
LeafFails text at kind e =
    (w : Weights) (n : ℕ) (o : Open) → Makes w text n at (begun_as kind o) → StuckAfter w text n e

-- memory was wanted; or wherever a group of this type has begun there, which has made what the one
-- quota says, a reading gets stuck so, having made what the other says
abbrev pub LeafStops : List ℕ → ℕ → Kind → Quota → Quota → TextParserError → Type 0
LeafStops text at kind p q e =
    (e ≡ want_of_memory)
    ⊎ ((o : Open) → Makes p.limit.weights text p.made at (begun_as kind o)
    → StuckAfter p.limit.weights text q.made e)

-- numbers up to their `}`, which stands there
pub record IsVector (text : List ℕ) (at to : ℕ) (ns : List ℕ) : Type 0 where
  pub numbers : Vector text at to ns
  pub brace : slice_index text to ≡ ascii.right_brace

-- wherever a group of this type has begun there, which has made what the one quota says, the quota
-- that is left keeps the limit that the one keeps
abbrev pub LeafKeeps : List ℕ → ℕ → Kind → Quota → Quota → Type 0
LeafKeeps text at kind p q =
    (o : Open) → Makes p.limit.weights text p.made at (begun_as kind o)
    → KeepsQuota text p.limit p → KeepsQuota text p.limit q
