-- What is left of entries that stand as a list, and of the first of them so far. What is left of
-- one is told by its key and tree.
--     all_left f ps       what is left of entries
--     LeftSoFar ..        what is left of the first entries of a table stands in a draft
use Rattle.std.specs.Prelude.{◌≡◌, ℕ, true, List, [], ◌∷◌, ◌++◌, Option, Some, None, map}
use Rattle.std.specs.Borrow.{Bor}
use Rattle.resb_tree.specs.Borrowing.{all_true}
use Rattle.resb_tree.specs.Tree.{Tree}
use Rattle.resb_draft.specs.Drafts.{tree_at, is_whole, Keeps}
use Rattle.resb_draft.specs.declared.draft.Draft.{Draft}
use Rattle.resb_filter.specs.Inner.Entries.{seen}

-- the tree that is left at a key, as a list of one, or none
abbrev pub one_left : List ℕ → Option Tree → List (List ℕ × Tree)
one_left k None = []
one_left k (Some t) = (k, t) ∷ []

-- what is left of an entry, by its key and tree
abbrev pub Leaving : Type 0
Leaving = List ℕ → Tree → Option Tree

-- what is left of entries
abbrev pub all_left : Leaving → List (List ℕ × Tree) → List (List ℕ × Tree)
all_left f [] = []
all_left f (p ∷ ps) = one_left p.0 (f p.0 p.1) ++ all_left f ps

-- what is left of the first entries of a table stands in the draft that has grown
pub record LeftSoFar (start d : Draft) (f : Leaving) (ps left : List (Bor (List ℕ) × ℕ))
    : Type 0 where
  pub keeps : Keeps start d
  pub trees : seen (tree_at d) left ≡ all_left f (seen (tree_at start) ps)
  pub whole : all_true (map (λ (p : Bor (List ℕ) × ℕ). is_whole d p.1) left) ≡ true
