-- What the code's items show of the grammar's: strings, trees and commas, without keys.
use Rattle.std.specs.Prelude.{ℕ, Bool, true, not, List, [], ◌∷◌, ◌++◌, Option, Some, None}
use Rattle.std.specs.Borrow.{Bor}
use Rattle.std.specs.Option.{option_map}
use Rattle.resb_tree.specs.Tree.{Tree, string}
use Rattle.resb_tree.specs.View.{tree_of}
use Rattle.resb_tree.specs.declared.resource.Resource.{Resource}
use Rattle.resb_tree.specs.Borrowing.{each_entry, is_slice, are_slice}
use Rattle.resb_text.specs.Borrowed.{borrows_strings}
use Rattle.resb_grammar.specs.Items as spec
use Rattle.resb_text.specs.declared.items.Item.{Item}
use Rattle.resb_text.specs.declared.items.Term.{Term}
use Rattle.resb_text.specs.declared.items.Term.TheVariants as variant

-- a string; or a tree of a group, and whether its strings are borrowed
pub data SeenItem : Type 0 where
  string_shown : List ℕ → Bool → SeenItem
  group_shown : Tree → Bool → Bool → SeenItem

-- what a term of trees is as a resource
abbrev pub tree_of_term : Term Resource → Tree
tree_of_term (variant.String s) = string s.now
tree_of_term (variant.Group r) = tree_of r

module _ {X : Type 0} (tree : X → Tree) (held : X → Bool) where
  -- what a term shows, whose groups stand for trees
  abbrev pub shown_term_by : Term X → Bool → SeenItem
  shown_term_by (variant.String s) f = string_shown s.now f
  shown_term_by (variant.Group x) f = group_shown (tree x) (held x) f

  -- what an item shows
  abbrev pub shown_by : Item X → SeenItem
  shown_by x = shown_term_by x.term x.comma

abbrev pub code_term_seen : Term Resource → Bool → SeenItem
code_term_seen = shown_term_by tree_of borrows_strings

-- what an item of trees shows
abbrev pub seen_in_code : Item Resource → SeenItem
seen_in_code = shown_by tree_of borrows_strings

abbrev pub term_seen : spec.Term → Bool → SeenItem
term_seen (spec.string_term s) f = string_shown s f
term_seen (spec.group_term t ks) f = group_shown t true f

-- what the grammar's items show, in order of place
abbrev pub items_seen : List spec.Item → List SeenItem
items_seen [] = []
items_seen (x ∷ xs) = items_seen xs ++ term_seen x.term x.comma ∷ []

abbrev pub shown_borrowed : SeenItem → Bool
shown_borrowed (string_shown s f) = true
shown_borrowed (group_shown t b f) = b

-- whether the strings of a term of the code are borrowed
abbrev pub term_borrowed : Term Resource → Bool
term_borrowed (variant.String s) = true
term_borrowed (variant.Group r) = borrows_strings r

-- whether the strings of a table's entries are borrowed
abbrev pub entries_borrowed : List (List ℕ × Resource) → Bool
entries_borrowed = each_entry is_slice (λ b. not (are_slice b))

abbrev pub shown_tree : SeenItem → Tree
shown_tree (string_shown s f) = string s
shown_tree (group_shown t b f) = t

-- the pairs of a key and the group that follows it; a key may wait at the front
abbrev pub pairs_after : Option (List ℕ) → List SeenItem → List (List ℕ × Tree)
pairs_after waiting [] = []
pairs_after waiting (string_shown s f ∷ xs) = pairs_after (Some s) xs
pairs_after (Some k) (group_shown t b f ∷ xs) = (k, t) ∷ pairs_after None xs
pairs_after None (group_shown t b f ∷ xs) = pairs_after None xs

-- the text of a key that waits, if one does
abbrev pub waiting_key : Option (Bor (List ℕ)) → Option (List ℕ)
waiting_key waiting = option_map (λ k. k.now) waiting

abbrev pub shown_pairs : List SeenItem → List (List ℕ × Tree)
shown_pairs xs = pairs_after None xs
