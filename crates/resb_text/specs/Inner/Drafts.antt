-- What items show whose groups are pieces of a draft, and what entries of a table show.
use Rattle.std.specs.Prelude.{ℕ, Bool, List, [], ◌∷◌, ◌++◌, map, length, Option, Some}
use Rattle.std.specs.Prelude.{None}
use Rattle.std.specs.Borrow.{Bor}
use Rattle.resb_tree.specs.Borrowing.{all_true}
use Rattle.resb_tree.specs.Tree.{Tree}
use Rattle.resb_draft.specs.Drafts.{tree_at, is_whole, EndsInEntries}
use Rattle.resb_draft.specs.declared.draft.Draft.{Draft}
use Rattle.resb_text.specs.Inner.Shown.{SeenItem, shown_term_by, shown_by}
use Rattle.resb_text.specs.declared.items.Item.{Item}
use Rattle.resb_text.specs.declared.items.Term.{Term}
use Rattle.resb_text.specs.declared.items.Term.TheVariants as variant

-- what a term shows, whose groups are pieces of a draft
abbrev pub piece_term_seen : Draft → Term ℕ → Bool → SeenItem
piece_term_seen d = shown_term_by (tree_at d) (is_whole d)

-- what an item shows, whose groups are pieces of a draft
abbrev pub piece_item_seen : Draft → Item ℕ → SeenItem
piece_item_seen d = shown_by (tree_at d) (is_whole d)

-- the keys of a table's entries and the trees of their pieces
abbrev pub entries_seen : Draft → List (Bor (List ℕ) × ℕ) → List (List ℕ × Tree)
entries_seen d ps = map (λ p. (p.0.now, tree_at d p.1)) ps

-- whether each entry's piece is whole
abbrev pub are_whole : Draft → List (Bor (List ℕ) × ℕ) → Bool
are_whole d ps = all_true (map (λ p. is_whole d p.1) ps)

-- the key that waits behind a term
abbrev pub key_after : Term ℕ → Option (Bor (List ℕ))
key_after (variant.String s) = Some s
key_after (variant.Group n) = None

-- the entry that a term ends, where a key may wait: the key, and the number of the piece
abbrev pub entry_of_term : Option (Bor (List ℕ)) → Term ℕ → List (Bor (List ℕ) × ℕ)
entry_of_term waiting (variant.String s) = []
entry_of_term (Some k) (variant.Group n) = (k, n) ∷ []
entry_of_term None (variant.Group n) = []

-- the entries of items, where a key may wait in front of them
abbrev pub entries_after : Option (Bor (List ℕ)) → List (Item ℕ) → List (Bor (List ℕ) × ℕ)
entries_after waiting [] = []
entries_after waiting (x ∷ xs) = entry_of_term waiting x.term ++ entries_after (key_after x.term) xs

-- a draft is another one with the keys of these entries and the numbers of their values put behind
abbrev pub PutsBehind : Draft → List (Bor (List ℕ) × ℕ) → Draft → Type 0
PutsBehind before ps d =
    EndsInEntries before (length before.members.items) (length before.keys.items) ps d
