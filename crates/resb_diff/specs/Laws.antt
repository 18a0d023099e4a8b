-- What the laws of differences say.
use Rattle.std.specs.Prelude.{◌≡◌, ◌≢◌, ◌↔◌, ℕ, zero, suc, List, [], ◌∷◌, Option, Some, None, All}
use Rattle.std.specs.Option.{option_and_then}
use Rattle.resb_tree.specs.Tree.{Tree, array, table}
use Rattle.resb_tree.specs.Tree.{Trees, no_trees, more_trees}
use Rattle.resb_tree.specs.Maps.{get, AreMaps}
use Rattle.resb_diff.specs.Differences.{Step, by_key, by_number}
use Rattle.resb_diff.specs.Differences.{Difference, added, removed, changed, differences}

-- two trees don't differ exactly where they are equal
abbrev pub NoneWhereEqual : Type 0
NoneWhereEqual = (t u : Tree) → (differences [] t u ≡ []) ↔ (t ≡ u)

-- the member of a number, the first of which is 0
abbrev pub member : ℕ → Trees → Option Tree
member n no_trees = None
member zero (more_trees t ts) = Some t
member (suc n) (more_trees t ts) = member n ts

-- where a step leads to in a tree: a key into a table that has it, a number into an array that is
-- long enough
abbrev pub after_step : Step → Tree → Option Tree
after_step (by_key k) (table es) = get k es
after_step (by_number n) (array ts) = member n ts
after_step s t = None

-- what stands at a path in a tree
abbrev pub at_path : List Step → Tree → Option Tree
at_path [] t = Some t
at_path (s ∷ p) t = option_and_then (at_path p) (after_step s t)

-- a difference is so: what was added stands in the new tree at its path, where nothing stands in
-- the old one; the other way round for what was removed; and what was changed stands there in the
-- old one as it was, and in the new one as another
abbrev pub IsSo : Tree → Tree → Difference → Type 0
IsSo old new (added p u) = (at_path p old ≡ None) × (at_path p new ≡ Some u)
IsSo old new (removed p t) = (at_path p old ≡ Some t) × (at_path p new ≡ None)
IsSo old new (changed p t u) = (at_path p old ≡ Some t) × (at_path p new ≡ Some u) × (t ≢ u)

-- each difference between two trees whose tables are maps is so
abbrev pub EachIsSo : Type 0
EachIsSo = (t u : Tree) → AreMaps t → AreMaps u → All (IsSo t u) (differences [] t u)
