-- What differs between two trees.
use Rattle.std.specs.Prelude.{ℕ, ◌+◌, List, [], ◌∷◌, ◌++◌, if◌then◌else◌}
use Rattle.std.specs.Ordering.{match_ordering}
use Rattle.resb_tree.specs.Tree.{Tree, array, table}
use Rattle.resb_tree.specs.Tree.{Trees, no_trees, more_trees, Entries}
use Rattle.resb_tree.specs.Tree.{no_entries, entry}
use Rattle.resb_tree.specs.Equality.{tree_eq}
use Rattle.resb_tree.specs.Maps.{text_cmp}

-- a step of a path: into a table, to the value of a key; into an array, to the member of a number,
-- the first of which is 0
pub data Step : Type 0 where
  by_key : List ℕ → Step
  by_number : ℕ → Step

-- a difference: at a path a tree was added; at a path a tree was removed; at a path the one tree
-- was changed to the other
pub data Difference : Type 0 where
  added : List Step → Tree → Difference
  removed : List Step → Tree → Difference
  changed : List Step → Tree → Tree → Difference

-- where the old array at a path has no member of number n, the new one's from there on are added
abbrev pub added_members : List Step → ℕ → Trees → List Difference
added_members p n no_trees = []
added_members p n (more_trees u us) =
    added (p ++ by_number n ∷ []) u ∷ added_members p (n + 1) us

-- where the old table at a path has no more entries, those of the new one are added
abbrev pub added_entries : List Step → Entries → List Difference
added_entries p no_entries = []
added_entries p (entry l u fs) = added (p ++ by_key l ∷ []) u ∷ added_entries p fs

-- the next entry of the old table at a path has the key k and the tree t, and `entries` are still
-- to come of the new one. A smaller key than k is added; at k itself `inside` says what differs
-- between t and its tree; where there is no k the entry is removed. `behind` says what differs
-- after that, between the old table's further entries and those that are still to come then
abbrev pub next_entry : List Step → List ℕ → Tree → (Tree → List Difference)
    → (Entries → List Difference) → Entries → List Difference
next_entry p k t inside behind no_entries = removed (p ++ by_key k ∷ []) t ∷ behind no_entries
next_entry p k t inside behind (entry l u fs) =
    match_ordering (text_cmp k l) (removed (p ++ by_key k ∷ []) t ∷ behind (entry l u fs))
    (inside u ++ behind fs)
    (added (p ++ by_key l ∷ []) u ∷ next_entry p k t inside behind fs)

abbrev mutual
  -- what differs between two trees at a path: between two arrays their members, between two tables
  -- their entries; any other two are changed as a whole, if they aren't equal
  pub differences : List Step → Tree → Tree → List Difference
  differences p (array ts) (array us) = member_differences p 0 ts us
  differences p (table es) (table fs) = entry_differences p es fs
  differences p t u = if tree_eq t u then [] else changed p t u ∷ []

  -- what differs between the members of two arrays at a path, from number n on: the first two, and
  -- those behind them; where one array has no more, the other's are added or removed
  pub member_differences : List Step → ℕ → Trees → Trees → List Difference
  member_differences p n no_trees us = added_members p n us
  member_differences p n (more_trees t ts) no_trees =
      removed (p ++ by_number n ∷ []) t ∷ member_differences p (n + 1) ts no_trees
  member_differences p n (more_trees t ts) (more_trees u us) =
      differences (p ++ by_number n ∷ []) t u ++ member_differences p (n + 1) ts us

  -- what differs between the entries of two tables at a path, by their keys in ascending order
  pub entry_differences : List Step → Entries → Entries → List Difference
  entry_differences p no_entries fs = added_entries p fs
  entry_differences p (entry k t es) fs =
      next_entry p k t (λ u. differences (p ++ by_key k ∷ []) t u) (λ gs. entry_differences p es gs)
      fs
