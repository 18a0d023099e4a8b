-- Texts of bundles: a name, a root and what is discovered on the way.
use Rattle.std.specs.Prelude.{◌≡◌, ℕ, ◌+◌, Bool, true, not, List, [], ◌∷◌, length, filter}
use Rattle.std.specs.Prelude.{slice_index, nat_eq}
use Rattle.std.specs.Cmp.Lexicographic.{pointwise}
use Rattle.resb_grammar.specs.Ascii as ascii
use Rattle.resb_tree.specs.Tree.{Tree}
use Rattle.resb_grammar.specs.Lexical.{Skip, Text}
use Rattle.resb_grammar.specs.Items.{Item, is_pairs, a_table, tree_in, keys_in}
use Rattle.resb_grammar.specs.GroupTypes.{RootType}
use Rattle.resb_grammar.specs.Group.{Items}

-- the keys in order, each at its first place alone
abbrev pub first_places : List (List ℕ) → List (List ℕ)
first_places [] = []
first_places (k ∷ ks) = k ∷ filter (λ j. not (pointwise nat_eq k j)) (first_places ks)

-- the root's type, if it has one, and the discardable text after it
pub data Typing (text : List ℕ) (from to : ℕ) : Bool → Type 0 where
  without : from ≡ to → Typing text from to true
  with : (i : ℕ) (fallback : Bool) → RootType text from i fallback → Skip text i to
      → Typing text from to fallback

-- a bundle's text up to its first entry
pub record Header (text name : List ℕ) (fallback : Bool) (to : ℕ) : Type 0 where
  pub start : ℕ
  pub ends : ℕ
  pub place : ℕ
  pub brace : ℕ
  pub before : Skip text 0 start
  pub named : Text text start ends name
  pub between : Skip text ends place
  pub typed : Typing text place brace fallback
  pub opens : slice_index text brace ≡ ascii.left_brace
  pub after : Skip text (brace + 1) to

-- the text is a bundle of this name, fallback and tree, with these keys discovered, each at its
-- first place alone: a name, perhaps the root's type, `{`, items that are pairs, `}`, and the end
pub record BundleText (text name : List ℕ) (fallback : Bool) (tree : Tree)
    (keys : List (List ℕ)) : Type 0 where
  pub first : ℕ
  pub last : ℕ
  pub items : List Item
  pub header : Header text name fallback first
  pub body : Items text first last items
  pub pairs : is_pairs items ≡ true
  pub closes : slice_index text last ≡ ascii.right_brace
  pub after : Skip text (last + 1) (length text)
  pub means : tree ≡ tree_in a_table items
  pub lists : keys ≡ first_places (keys_in a_table items)
