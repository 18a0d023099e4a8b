-- What the rest of a text has to be at a place of a reading, by what is open there: the words in
-- which each step of a reader says that it loses and adds no meaning.
--     Meaning         the tree of the root, and the keys in order of place, with repetitions
--     After text ws   where a group has ended, inside these groups
--     RestOfMembers, RestOfEntries, RestOfGroup, RestOfUntyped, RestOfTyped
--                     where members, entries, a group or what stands inside one follow
use Rattle.std.specs.Prelude.{◌≡◌, ◌+◌, ℕ, List, [], ◌∷◌, ◌++◌}
use Rattle.std.specs.Prelude.{slice_index}
use Rattle.resb_grammar.specs.Ascii as ascii
use Rattle.resb_tree.specs.Tree.{Tree, array, table, trees_of, map_of}
use Rattle.resb_icu_grammar.specs.Blanks.{Skip}
use Rattle.resb_icu_grammar.specs.Kinds.{Kind}
use Rattle.resb_icu_grammar.specs.Bundle.{Ending}
use Rattle.resb_icu_grammar.specs.Machine.{Waiting, in_array, in_table, AreDistinct}
use Rattle.resb_icu_grammar.specs.Groups.{Last, a_group, Members, Entries, Untyped, Typed, Group}

-- the tree of the root, and the keys in order of place, with repetitions
abbrev pub Meaning : Type 0
Meaning = Tree × List (List ℕ)

-- what follows where a group with this tree has ended, with the keys so far
abbrev pub Goal : Type 1
Goal = ℕ → Tree → List (List ℕ) → Meaning → Type 0

-- members follow, and the `}` of their array
pub record RestOfMembers (text : List ℕ) (goal : Goal) (last : Last) (ts : List Tree) (at : ℕ)
    (ks : List (List ℕ)) (m : Meaning) : Type 0 where
  pub to : ℕ
  pub more : List Tree
  pub keys : List (List ℕ)
  pub members : Members text last at to more keys
  pub closes : slice_index text to ≡ ascii.right_brace
  pub then : goal (to + 1) (array (trees_of (ts ++ more))) (ks ++ keys) m

-- entries follow, and the `}` of their table
pub record RestOfEntries (text : List ℕ) (goal : Goal) (es : List (List ℕ × Tree)) (at : ℕ)
    (ks : List (List ℕ)) (m : Meaning) : Type 0 where
  pub to : ℕ
  pub more : List (List ℕ × Tree)
  pub keys : List (List ℕ)
  pub entries : Entries text at to more keys
  pub closes : slice_index text to ≡ ascii.right_brace
  pub distinct : AreDistinct (es ++ more)
  pub then : goal (to + 1) (table (map_of (es ++ more))) (ks ++ keys) m

-- a group follows
pub record RestOfGroup (text : List ℕ) (goal : Goal) (at : ℕ) (ks : List (List ℕ)) (m : Meaning)
    : Type 0 where
  pub to : ℕ
  pub tree : Tree
  pub keys : List (List ℕ)
  pub group : Group text at to tree keys
  pub then : goal to tree (ks ++ keys) m

-- what stands in a group without a type follows, and its `}`
pub record RestOfUntyped (text : List ℕ) (goal : Goal) (at : ℕ) (ks : List (List ℕ)) (m : Meaning)
    : Type 0 where
  pub to : ℕ
  pub tree : Tree
  pub keys : List (List ℕ)
  pub content : Untyped text at to tree keys
  pub closes : slice_index text to ≡ ascii.right_brace
  pub then : goal (to + 1) tree (ks ++ keys) m

-- what stands in a group of this type follows, and its `}`
pub record RestOfTyped (text : List ℕ) (goal : Goal) (kind : Kind) (at : ℕ) (ks : List (List ℕ))
    (m : Meaning) : Type 0 where
  pub to : ℕ
  pub tree : Tree
  pub keys : List (List ℕ)
  pub content : Typed text kind at to tree keys
  pub closes : slice_index text to ≡ ascii.right_brace
  pub then : goal (to + 1) tree (ks ++ keys) m

-- behind the last group stands what may stand behind a bundle
pub record AtEnd (text : List ℕ) (at : ℕ) (t : Tree) (ks : List (List ℕ)) (m : Meaning)
    : Type 0 where
  pub after : Ending text at
  pub means : m ≡ (t, ks)

-- blanks follow a member of an array that is a group, and then the others
pub record AfterMember (text : List ℕ) (goal : Goal) (ts : List Tree) (at : ℕ) (t : Tree)
    (ks : List (List ℕ)) (m : Meaning) : Type 0 where
  pub next : ℕ
  pub after : Skip text at next
  pub rest : RestOfMembers text goal a_group (ts ++ t ∷ []) next ks m

-- blanks follow the value of an entry, and then the others
pub record AfterValue (text : List ℕ) (goal : Goal) (es : List (List ℕ × Tree)) (key : List ℕ)
    (at : ℕ) (t : Tree) (ks : List (List ℕ)) (m : Meaning) : Type 0 where
  pub next : ℕ
  pub after : Skip text at next
  pub rest : RestOfEntries text goal (es ++ (key, t) ∷ []) next ks m

-- a group has ended inside these groups, the innermost first
abbrev pub After : List ℕ → List Waiting → Goal
After text [] = AtEnd text
After text (in_array ts ∷ ws) = AfterMember text (After text ws) ts
After text (in_table es key ∷ ws) = AfterValue text (After text ws) es key

-- two words about the rest say the same
abbrev pub Same : (Meaning → Type 0) → (Meaning → Type 0) → Type 0
Same P Q = (m : Meaning) → (P m → Q m) × (Q m → P m)

-- the rest has no meaning
abbrev pub Never : (Meaning → Type 0) → Type 0
Never P = (m : Meaning) → P m → ⊥
