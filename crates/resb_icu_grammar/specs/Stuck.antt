-- Where a reading of a text in ICU's form cannot go on, and what was expected there.
use Rattle.std.specs.Prelude.{◌≡◌, ◌≢◌, ◌+◌, ◌≤◌, ◌<◌, ℕ, Bool, true, false, None, List, []}
use Rattle.std.specs.Prelude.{length, slice_index, if◌then◌else◌}
use Rattle.resb_grammar.specs.Ascii as ascii
use Rattle.resb_tree.specs.Tree.{Tree}
use Rattle.resb_icu_grammar.specs.Blanks.{Begins, Skip}
use Rattle.resb_icu_grammar.specs.Kinds.{Kind, Names, string_kind, alias_kind, binary_kind}
use Rattle.resb_icu_grammar.specs.Kinds.{integer_kind, vector_kind}
use Rattle.resb_icu_grammar.specs.Words.{Text, KeyText, Name, Number, TypeName, GroupType, RootType}
use Rattle.resb_icu_grammar.specs.Expected.{instead_of}
use Rattle.resb_icu_grammar.specs.Faults.{Told}
use Rattle.resb_icu_grammar.specs.Bundle.{Header, is_barred}
use Rattle.resb_icu_grammar.specs.Groups.{Last, is_member, ends_in_string, digits_of}
use Rattle.resb_icu_grammar.specs.Machine.{Waiting, AreDistinct, Standing, among_members}
use Rattle.resb_icu_grammar.specs.Machine.{among_entries, before_group, in_untyped, in_typed}
use Rattle.resb_icu_grammar.specs.Machine.{behind_group, Reading, reading_at, at_root, BeginsGroup}
use Rattle.resb_icu_grammar.specs.Machine.{Comes}
use Rattle.resb_icu_grammar.specs.declared.expected.IcuExpected.{IcuExpected}
use Rattle.resb_icu_grammar.specs.declared.expected.IcuExpected.TheVariants as expect

-- no string stands there
abbrev pub NoStringAt : List ℕ → ℕ → Type 0
NoStringAt text at = (to : ℕ) (s : List ℕ) → Text text at to s → ⊥

-- no string that may be a key stands there
abbrev pub NoKeyAt : List ℕ → ℕ → Type 0
NoKeyAt text at = (to : ℕ) (k : List ℕ) → KeyText text at to k → ⊥

-- no number stands there
abbrev pub NoNumberAt : List ℕ → ℕ → Type 0
NoNumberAt text at = (to v : ℕ) → Number text at to v → ⊥

-- what was expected where no member, comma or `}` stands among the members of an array: a comma may
-- stand behind a member alone
abbrev pub member_behind : Last → IcuExpected
member_behind last = if is_member last then expect.CommaOrMember else expect.Member

-- at a `:` no type of a group stands, where this was expected
pub data TypeStuck (text : List ℕ) (at : ℕ) : IcuExpected → Type 0 where
  -- no name stands behind it
  no_type_name : ((to : ℕ) (name : List ℕ) → TypeName text at to name → ⊥)
      → TypeStuck text at expect.GroupType
  -- a name, which is of no type that a tree has
  no_tree : (to : ℕ) (name : List ℕ) → TypeName text at to name
      → ((kind : Kind) → Names name kind → ⊥) → TypeStuck text at (instead_of name)

-- some numbers from one place up to another, with a comma behind each
pub data NumbersSoFar (text : List ℕ) : ℕ → ℕ → Type 0 where
  none_yet : (at : ℕ) → NumbersSoFar text at at
  one_number : (from at i j to v : ℕ) → NumbersSoFar text from at → Number text at i v
      → Skip text i j → slice_index text j ≡ ascii.comma → Skip text (j + 1) to
      → NumbersSoFar text from to

-- in the content of a group with this type, from one place on, a reading cannot go on at another,
-- where this was expected
pub data LeafStuck (text : List ℕ) (from : ℕ) : Kind → ℕ → IcuExpected → Type 0 where
  -- a string must stand in `:string{..}`, and a `}` behind it
  no_string : (to : ℕ) (x : IcuExpected) → NoStringAt text from → Told text from expect.String to x
      → LeafStuck text from string_kind to x
  open_string : (i j : ℕ) (s : List ℕ) → Text text from i s → Skip text i j
      → slice_index text j ≢ ascii.right_brace
      → LeafStuck text from string_kind j expect.RightBrace
  -- in `:alias{..}` a string as well, the path
  no_path : (to : ℕ) (x : IcuExpected) → NoStringAt text from → Told text from expect.String to x
      → LeafStuck text from alias_kind to x
  open_alias : (i j : ℕ) (s : List ℕ) → Text text from i s → Skip text i j
      → slice_index text j ≢ ascii.right_brace
      → LeafStuck text from alias_kind j expect.RightBrace
  -- in `:bin{..}` a string of pairs of hex digits, and a `}` behind it
  no_digits : (to : ℕ) (x : IcuExpected) → NoStringAt text from → Told text from expect.String to x
      → LeafStuck text from binary_kind to x
  odd_digits : (i : ℕ) (s : List ℕ) → (t : Text text from i s) → digits_of t ≡ None
      → LeafStuck text from binary_kind from expect.HexPairs
  open_binary : (i j : ℕ) (s : List ℕ) → (t : Text text from i s) → (digits_of t ≢ None)
      → Skip text i j → slice_index text j ≢ ascii.right_brace
      → LeafStuck text from binary_kind j expect.RightBrace
  -- in `:int{..}` a number, and a `}` behind it
  no_integer : NoNumberAt text from → LeafStuck text from integer_kind from expect.Number
  open_integer : (i j v : ℕ) → Number text from i v → Skip text i j
      → slice_index text j ≢ ascii.right_brace
      → LeafStuck text from integer_kind j expect.RightBrace
  -- in `:intvector{..}` a number or `}`, and behind a number a comma or `}`
  no_number : (at : ℕ) → NumbersSoFar text from at → slice_index text at ≢ ascii.right_brace
      → NoNumberAt text at → LeafStuck text from vector_kind at expect.NumberOrRightBrace
  open_vector : (at i j v : ℕ) → NumbersSoFar text from at → Number text at i v → Skip text i j
      → slice_index text j ≢ ascii.comma → slice_index text j ≢ ascii.right_brace
      → LeafStuck text from vector_kind j expect.CommaOrRightBrace

-- a reading that stands somewhere cannot go on at a place, where this was expected
pub data StepStuck (text : List ℕ) : Standing → ℕ → ℕ → IcuExpected → Type 0 where
  -- no member, comma or `}` stands among the members of an array
  no_member : (last : Last) (ts : List Tree) (at to : ℕ) (x : IcuExpected)
      → slice_index text at ≢ ascii.right_brace → slice_index text at ≢ ascii.comma
      → (BeginsGroup text at → ⊥) → NoStringAt text at → Told text at (member_behind last) to x
      → StepStuck text (among_members last ts) at to x
  -- a string right behind a string
  two_strings : (last : Last) (ts : List Tree) (at i : ℕ) (s : List ℕ) → ends_in_string last ≡ true
      → Text text at i s → StepStuck text (among_members last ts) at at expect.Comma
  -- a comma behind no member
  lone_comma : (last : Last) (ts : List Tree) (at : ℕ) → is_member last ≡ false
      → slice_index text at ≡ ascii.comma
      → StepStuck text (among_members last ts) at at expect.Member
  -- a `}` behind entries among which a key stands twice
  key_twice : (es : List (List ℕ × Tree)) (at : ℕ) → slice_index text at ≡ ascii.right_brace
      → (AreDistinct es → ⊥) → StepStuck text (among_entries es) at at expect.KeysOnce
  -- neither a key nor a `}` among entries
  no_entry : (es : List (List ℕ × Tree)) (at to : ℕ) (x : IcuExpected)
      → slice_index text at ≢ ascii.right_brace → NoKeyAt text at → Told text at expect.Entry to x
      → StepStuck text (among_entries es) at to x
  -- neither `{` nor `:` where a group must stand
  no_group : (at : ℕ) → (BeginsGroup text at → ⊥) → StepStuck text before_group at at expect.Group
  -- a `:` that begins no type
  no_type : (at : ℕ) (x : IcuExpected) → slice_index text at ≡ ascii.colon → TypeStuck text at x
      → StepStuck text before_group at at x
  -- a type without a `{`
  no_brace : (at i j : ℕ) (kind : Kind) → GroupType text at i kind → Skip text i j
      → slice_index text j ≢ ascii.left_brace
      → StepStuck text before_group at j expect.LeftBrace
  -- nothing that a group without a type may hold
  no_content : (at to : ℕ) (x : IcuExpected) → slice_index text at ≢ ascii.right_brace
      → (BeginsGroup text at → ⊥) → NoStringAt text at → Told text at expect.Member to x
      → StepStuck text in_untyped at to x
  -- a string first in a group without a type, and nothing behind it that may stand there
  no_further : (at i j : ℕ) (s : List ℕ) → Text text at i s → Skip text i j
      → slice_index text j ≢ ascii.right_brace → slice_index text j ≢ ascii.comma
      → (BeginsGroup text j → ⊥) → StepStuck text in_untyped at j expect.AfterString
  -- a string that may be no key, and a group behind it
  no_key : (at i j : ℕ) (s : List ℕ) → Text text at i s → Skip text i j → BeginsGroup text j
      → NoKeyAt text at → StepStuck text in_untyped at at expect.Key
  -- the content of a group with a type
  in_leaf : (kind : Kind) (at to : ℕ) (x : IcuExpected) → LeafStuck text at kind to x
      → StepStuck text (in_typed kind) at to x

-- a group has ended, and a reading cannot go on at a place, where this was expected
pub data EndStuck (text : List ℕ) (t : Tree) (at : ℕ)
    : List Waiting → ℕ → IcuExpected → Type 0 where
  -- more than blanks behind the root, with what no text behind a bundle has
  more_text : (end barred : ℕ) → Skip text at end → end ≤ barred → barred < length text
      → is_barred text barred ≡ true → EndStuck text t at [] end expect.EndOfText

-- a reading cannot go on before the first entry, at this place, where this was expected
pub data HeaderStuck (text : List ℕ) : ℕ → IcuExpected → Type 0 where
  no_name : (a start to : ℕ) (x : IcuExpected) → Begins text a → Skip text a start
      → ((end : ℕ) (name : List ℕ) → Name text start end name → ⊥)
      → Told text start expect.Name to x → HeaderStuck text to x
  no_root_type : (a start end at : ℕ) (name : List ℕ) → Begins text a → Skip text a start
      → Name text start end name → Skip text end at → slice_index text at ≡ ascii.colon
      → ((to : ℕ) (fallback : Bool) → RootType text at to fallback → ⊥)
      → HeaderStuck text at expect.RootType
  no_root_brace : (a start end at : ℕ) (name : List ℕ) → Begins text a → Skip text a start
      → Name text start end name → Skip text end at → slice_index text at ≢ ascii.colon
      → slice_index text at ≢ ascii.left_brace → HeaderStuck text at expect.LeftBrace
  no_typed_brace : (a start end at i brace : ℕ) (name : List ℕ) (fallback : Bool) → Begins text a
      → Skip text a start → Name text start end name → Skip text end at
      → RootType text at i fallback → Skip text i brace
      → slice_index text brace ≢ ascii.left_brace → HeaderStuck text brace expect.LeftBrace

-- a reading cannot go on at a place, where this was expected
pub data ReadStuck (text : List ℕ) : Reading → ℕ → IcuExpected → Type 0 where
  inside : (ws : List Waiting) (ks : List (List ℕ)) (s : Standing) (at to : ℕ) (x : IcuExpected)
      → StepStuck text s at to x → ReadStuck text (reading_at ws ks s at) to x
  behind : (ws : List Waiting) (ks : List (List ℕ)) (t : Tree) (at to : ℕ) (x : IcuExpected)
      → EndStuck text t at ws to x → ReadStuck text (reading_at ws ks (behind_group t) at) to x

-- from one place on a reading comes to a place where it cannot go on
pub record StuckFrom (text : List ℕ) (from : Reading) (to : ℕ) (x : IcuExpected) : Type 0 where
  pub last : Reading
  pub comes : Comes text from last
  pub there : ReadStuck text last to x

-- a reading of the text gets stuck at this place, where this was expected: before the first entry
-- of the root, or behind it
pub data Stuck (text : List ℕ) (to : ℕ) (x : IcuExpected) : Type 0 where
  in_header : HeaderStuck text to x → Stuck text to x
  in_root : (name : List ℕ) (fallback : Bool) (first : ℕ) → Header text name fallback first
      → StuckFrom text (at_root first) to x → Stuck text to x
