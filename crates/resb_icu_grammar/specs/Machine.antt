-- A reading of a text of ICU's form from the first entry of the root on: where it stands, with what
-- it has read so far, each step that it may make, and what is read by steps to the end.
use Rattle.std.specs.Prelude.{◌≡◌, ◌⊎◌, ◌+◌, ℕ, Bool, true, false, List, [], ◌∷◌, ◌++◌}
use Rattle.std.specs.Prelude.{slice_index}
use Rattle.resb_grammar.specs.Ascii as ascii
use Rattle.resb_grammar.specs.BundleText.{first_places}
use Rattle.resb_tree.specs.Tree.{Tree, string, array, table, trees_of, map_of}
use Rattle.resb_icu_grammar.specs.Blanks.{Skip}
use Rattle.resb_icu_grammar.specs.Kinds.{Kind, array_kind, table_kind}
use Rattle.resb_icu_grammar.specs.Words.{Text, KeyText}
use Rattle.resb_icu_grammar.specs.Groups.{Last, nothing, a_string, a_group, a_comma, TypedOpening}
use Rattle.resb_icu_grammar.specs.Groups.{LeafContent, is_member, ends_in_string, is_new}
use Rattle.resb_icu_grammar.specs.Bundle.{Header, Ending}

-- what is open around a group: an array with the members before it, or a table with the entries
-- before it and its key
pub data Waiting : Type 0 where
  in_array : List Tree → Waiting
  in_table : List (List ℕ × Tree) → List ℕ → Waiting

-- each key stands once among these entries
abbrev pub AreDistinct : List (List ℕ × Tree) → Type 0
AreDistinct [] = Unit {0}
AreDistinct (e ∷ es) = (is_new e.0 es ≡ true) × AreDistinct es

-- where a reading stands
pub data Standing : Type 0 where
  -- among the members of an array, of which these stand before the place, the last as said
  among_members : Last → List Tree → Standing
  -- among the entries of a table, of which these stand before the place
  among_entries : List (List ℕ × Tree) → Standing
  -- before a group
  before_group : Standing
  -- behind the `{` of a group without a type, or with this type
  in_untyped : Standing
  in_typed : Kind → Standing
  -- behind a group that is this tree
  behind_group : Tree → Standing

-- a reading: the groups that are open around the place, the innermost first; the keys so far, in
-- order of place; where it stands; and the place
pub record Reading : Type 0 where
  pub around : List Waiting
  pub keys : List (List ℕ)
  pub stands : Standing
  pub at : ℕ

-- a `{` or a `:` stands there
abbrev pub BeginsGroup : List ℕ → ℕ → Type 0
BeginsGroup text at =
    (slice_index text at ≡ ascii.left_brace) ⊎ (slice_index text at ≡ ascii.colon)

-- a reading inside these groups and with these keys
abbrev pub reading_at : List Waiting → List (List ℕ) → Standing → ℕ → Reading
reading_at ws ks s at = record { around = ws; keys = ks; stands = s; at = at }

-- one step of a reading inside a group
pub data Move (text : List ℕ) (ws : List Waiting) (ks : List (List ℕ))
    : Standing → ℕ → Reading → Type 0 where
  -- a `}` ends an array
  array_ends : (last : Last) (ts : List Tree) (at : ℕ) → slice_index text at ≡ ascii.right_brace
      → Move text ws ks (among_members last ts) at
      (reading_at ws ks (behind_group (array (trees_of ts))) (at + 1))
  -- a comma behind a member
  comma_behind : (last : Last) (ts : List Tree) (at j : ℕ) → is_member last ≡ true
      → slice_index text at ≡ ascii.comma → Skip text (at + 1) j
      → Move text ws ks (among_members last ts) at (reading_at ws ks (among_members a_comma ts) j)
  -- a string that is a member
  string_member : (last : Last) (ts : List Tree) (at i j : ℕ) (s : List ℕ)
      → ends_in_string last ≡ false → Text text at i s → Skip text i j
      → Move text ws ks (among_members last ts) at
      (reading_at ws ks (among_members a_string (ts ++ string s ∷ [])) j)
  -- a group that is a member begins
  group_member : (last : Last) (ts : List Tree) (at : ℕ) → BeginsGroup text at
      → Move text ws ks (among_members last ts) at
      (reading_at (in_array ts ∷ ws) ks before_group at)
  -- a `}` ends a table that has each key once
  table_ends : (es : List (List ℕ × Tree)) (at : ℕ) → slice_index text at ≡ ascii.right_brace
      → AreDistinct es
      → Move text ws ks (among_entries es) at
      (reading_at ws ks (behind_group (table (map_of es))) (at + 1))
  -- a key begins an entry
  key_of_entry : (es : List (List ℕ × Tree)) (at i j : ℕ) (k : List ℕ) → KeyText text at i k
      → Skip text i j
      → Move text ws ks (among_entries es) at
      (reading_at (in_table es k ∷ ws) (ks ++ k ∷ []) before_group j)
  -- a `{` begins a group without a type
  group_opens : (at i : ℕ) → slice_index text at ≡ ascii.left_brace → Skip text (at + 1) i
      → Move text ws ks before_group at (reading_at ws ks in_untyped i)
  -- a type and its `{`
  type_opens : (at i : ℕ) (kind : Kind) → TypedOpening text at kind i
      → Move text ws ks before_group at (reading_at ws ks (in_typed kind) i)
  -- a group without a type that holds nothing is an array
  untyped_nothing : (at : ℕ) → slice_index text at ≡ ascii.right_brace
      → Move text ws ks in_untyped at
      (reading_at ws ks (behind_group (array (trees_of []))) (at + 1))
  -- one that begins with a group is an array
  begins_with_group : (at : ℕ) → BeginsGroup text at
      → Move text ws ks in_untyped at (reading_at ws ks (among_members nothing []) at)
  -- one that is a string
  untyped_string : (at i j : ℕ) (s : List ℕ) → Text text at i s → Skip text i j
      → slice_index text j ≡ ascii.right_brace
      → Move text ws ks in_untyped at (reading_at ws ks (behind_group (string s)) (j + 1))
  -- one that begins with a string and a comma is an array
  begins_with_string : (at i j : ℕ) (s : List ℕ) → Text text at i s → Skip text i j
      → slice_index text j ≡ ascii.comma
      → Move text ws ks in_untyped at (reading_at ws ks (among_members a_string (string s ∷ [])) j)
  -- one that begins with a key and a group is a table
  begins_with_key : (at i j : ℕ) (k : List ℕ) → KeyText text at i k → Skip text i j
      → BeginsGroup text j
      → Move text ws ks in_untyped at
      (reading_at (in_table [] k ∷ ws) (ks ++ k ∷ []) before_group j)
  -- in `:array{..}` stand members
  members_follow : (at : ℕ)
      → Move text ws ks (in_typed array_kind) at (reading_at ws ks (among_members nothing []) at)
  -- in `:table{..}` stand entries
  entries_follow : (at : ℕ)
      → Move text ws ks (in_typed table_kind) at (reading_at ws ks (among_entries []) at)
  -- the content of a group of another type, and its `}`
  leaf_follows : (kind : Kind) (at to : ℕ) (t : Tree) → LeafContent text at to kind t
      → slice_index text to ≡ ascii.right_brace
      → Move text ws ks (in_typed kind) at (reading_at ws ks (behind_group t) (to + 1))

-- one step out of a group, behind which stand blanks
pub data StepOut (text : List ℕ) (ks : List (List ℕ)) (t : Tree) (at : ℕ)
    : List Waiting → Reading → Type 0 where
  -- it was a member of an array
  was_member : (ws : List Waiting) (ts : List Tree) (j : ℕ) → Skip text at j
      → StepOut text ks t at (in_array ts ∷ ws)
      (reading_at ws ks (among_members a_group (ts ++ t ∷ [])) j)
  -- it was the value of an entry
  was_value : (ws : List Waiting) (es : List (List ℕ × Tree)) (k : List ℕ) (j : ℕ) → Skip text at j
      → StepOut text ks t at (in_table es k ∷ ws)
      (reading_at ws ks (among_entries (es ++ (k, t) ∷ [])) j)

-- a reading comes from one place to another by such steps
pub data Comes (text : List ℕ) : Reading → Reading → Type 0 where
  here : (r : Reading) → Comes text r r
  moves : (from r : Reading) (ws : List Waiting) (ks : List (List ℕ)) (s : Standing) (at : ℕ)
      → Comes text from (reading_at ws ks s at) → Move text ws ks s at r → Comes text from r
  leaves : (from r : Reading) (ws : List Waiting) (ks : List (List ℕ)) (t : Tree) (at : ℕ)
      → Comes text from (reading_at ws ks (behind_group t) at) → StepOut text ks t at ws r
      → Comes text from r

-- a reading among the entries of the root, of which there are none yet
abbrev pub at_root : ℕ → Reading
at_root first = reading_at [] [] (among_entries []) first

-- behind a header, steps lead from the first entry of the root to behind the root, which is this
-- tree, and there stands what may stand behind a bundle; each key is listed at its first place
-- alone
pub record IsReadToTheEnd (text name : List ℕ) (fallback : Bool) (tree : Tree)
    (keys : List (List ℕ)) : Type 0 where
  pub first : ℕ
  pub end : ℕ
  pub places : List (List ℕ)
  pub header : Header text name fallback first
  pub comes : Comes text (at_root first) (reading_at [] places (behind_group tree) end)
  pub after : Ending text end
  pub lists : keys ≡ first_places places
