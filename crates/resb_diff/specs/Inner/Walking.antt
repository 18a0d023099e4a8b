-- The walk through two trees: changes of which some are still to be looked at, and what they come
-- to.
use Rattle.std.specs.Prelude.{◌≡◌, ℕ, ◌+◌, ◌<◌, ◌≤◌, List, [], ◌∷◌, ◌++◌, length}
use Rattle.std.specs.Prelude.{slice_index_or, Option, Some, None, if◌then◌else◌}
use Rattle.std.specs.List.{flat_map}
use Rattle.resb_tree.specs.Equality.{tree_eq}
use Rattle.resb_tree.specs.Tree.{Tree, Trees, no_trees, more_trees, Entries, no_entries, entry}
use Rattle.resb_tree.specs.Tree.{tree_count, trees_count, entries_count}
use Rattle.resb_tree.specs.View.{tree_of}
use Rattle.resb_tree.specs.declared.resource.Resource.{Resource}
use Rattle.std.specs.Borrow.{Bor}
use Rattle.resb_diff.specs.Differences.{Step, by_key, by_number}
use Rattle.resb_diff.specs.Differences.{Difference, changed, differences}
use Rattle.resb_diff.specs.Differences.{member_differences, entry_differences}
use Rattle.resb_diff.specs.View.{named, listed}
use Rattle.resb_diff.specs.declared.differences.Change.{Change}
use Rattle.resb_diff.specs.declared.differences.Change.TheVariants.{Added, Removed, Changed}
use Rattle.resb_diff.specs.declared.differences.Found.{Found}

-- what a change that is to be looked at comes to: a changed tree is what differs inside
abbrev pub looked_at : Difference → List Difference
looked_at (changed p t u) = differences p t u
looked_at d = d ∷ []

-- what changes come to
abbrev pub to_come : List (List Step) → List Found → List Difference
to_come ps fs = flat_map looked_at (listed ps fs)

-- how many steps a change takes at most
abbrev pub weight : Change → ℕ
weight (Added u) = 1
weight (Removed t) = 1
weight (Changed t u) = tree_count (tree_of t.now) + tree_count (tree_of u.now)

-- the same of changes
abbrev pub weights : List Found → ℕ
weights [] = 0
weights (f ∷ fs) = weight f.change + weights fs

-- each change has one of the first n paths
abbrev pub AreWithin : ℕ → List Found → Type 0
AreWithin n [] = Unit {0}
AreWithin n (f ∷ fs) = (f.path < n) × AreWithin n fs

-- paths that were known stay, each at its number
pub record Keeps (ps qs : List (List Step)) : Type 0 where
  pub as_many : length ps ≤ length qs
  pub same : (i : ℕ) → i < length ps → slice_index_or qs i [] ≡ slice_index_or ps i []

-- the changes fs and one behind them, at the path p, are gs
pub record PutsOne (ps : List (List Step)) (fs : List Found) (p : List Step) (c : Change)
    (qs : List (List Step)) (gs : List Found) : Type 0 where
  pub lists : listed qs gs ≡ listed ps fs ++ named p c ∷ []
  pub within : AreWithin (length qs) gs
  pub keeps : Keeps ps qs
  pub weighs : weights gs ≡ weights fs + weight c
  pub long : length gs ≡ length fs + 1

-- changes that come to ds, and take fewer than n steps
pub record ComeTo (ps : List (List Step)) (ds : List Difference) (n : ℕ) (qs : List (List Step))
    (fs : List Found) : Type 0 where
  pub comes : to_come qs fs ≡ ds
  pub within : AreWithin (length qs) fs
  pub keeps : Keeps ps qs
  pub weighs : weights fs < n

-- the trees of an array that are still to come: the next one, if there is one, and those behind it
abbrev pub trees_to_come : Option (Bor Resource) → Trees → Trees
trees_to_come None ts = no_trees
trees_to_come (Some t) ts = more_trees (tree_of t.now) ts

-- those behind the next one
abbrev pub trees_behind : Option (Bor Resource) → Trees → Trees
trees_behind None ts = no_trees
trees_behind (Some t) ts = ts

-- a change is the first thing of what is still to come of two arrays, whatever is behind
pub record TakesMember (one other : Option (Bor Resource)) (c : Change) : Type 0 where
  pub comes : (p : List Step) (n : ℕ) (ts us : Trees)
      → member_differences p n (trees_to_come one ts) (trees_to_come other us)
      ≡ looked_at (named (p ++ by_number n ∷ []) c)
      ++ member_differences p (n + 1) (trees_behind one ts) (trees_behind other us)
  pub weighs : (ts us : Trees)
      → weight c + trees_count (trees_behind one ts) + trees_count (trees_behind other us)
      ≤ trees_count (trees_to_come one ts) + trees_count (trees_to_come other us)

-- the entries of a table that are still to come: the next one, if there is one, and those behind it
abbrev pub entries_to_come : Option (Bor (List ℕ) × Bor Resource) → Entries → Entries
entries_to_come None es = no_entries
entries_to_come (Some e) es = entry e.0.now (tree_of e.1.now) es

-- what is left of the old table's entries behind a change: all, where one was added
abbrev pub old_left : Change → Entries → Entries → Entries
old_left (Added u) all behind = all
old_left (Removed t) all behind = behind
old_left (Changed t u) all behind = behind

-- what is left of the new table's entries behind a change: all, where one was removed
abbrev pub new_left : Change → Entries → Entries → Entries
new_left (Added u) all behind = behind
new_left (Removed t) all behind = all
new_left (Changed t u) all behind = behind

-- a change at the key k is the first thing of what is still to come of two tables, whatever is
-- behind
pub record TakesEntry (one other : Option (Bor (List ℕ) × Bor Resource)) (k : List ℕ) (c : Change)
    : Type 0 where
  pub comes : (p : List Step) (es fs : Entries)
      → entry_differences p (entries_to_come one es) (entries_to_come other fs)
      ≡ looked_at (named (p ++ by_key k ∷ []) c)
      ++ entry_differences p (old_left c (entries_to_come one es) es)
      (new_left c (entries_to_come other fs) fs)
  pub weighs : (es fs : Entries)
      → weight c + entries_count (old_left c (entries_to_come one es) es)
      + entries_count (new_left c (entries_to_come other fs) fs)
      ≤ entries_count (entries_to_come one es) + entries_count (entries_to_come other fs)

-- two trees that aren't equal are changed as a whole, wherever they stand
abbrev pub DifferAsWhole : Tree → Tree → Type 0
DifferAsWhole t u =
    (p : List Step) → differences p t u ≡ (if tree_eq t u then [] else changed p t u ∷ [])

-- what was found, and what those that are still to be looked at come to
abbrev pub all_found : List (List Step) → List Found → List Found → List Difference
all_found ps fs pending = listed ps fs ++ to_come ps pending

-- the next of those that are still to be looked at gives way to what it comes to, and fewer steps
-- are left
pub record LooksAt (ps : List (List Step)) (fs pending : List Found) (qs : List (List Step))
    (gs pending' : List Found) : Type 0 where
  pub same : all_found qs gs pending' ≡ all_found ps fs pending
  pub found_within : AreWithin (length qs) gs
  pub pending_within : AreWithin (length qs) pending'
  pub weighs : weights pending' < weights pending
