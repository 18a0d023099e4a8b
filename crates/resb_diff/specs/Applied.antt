-- A tree with differences carried out, and what the differences between two trees are by that.
use Rattle.std.specs.Prelude.{◌≡◌, ◌≢◌, ℕ, zero, suc, ◌<◌, List, [], ◌∷◌, ◌++◌, ◌⊎◌}
use Rattle.std.specs.Prelude.{Option, Some, None, All, AllPairs}
use Rattle.std.specs.Ordering.{match_ordering}
use Rattle.std.specs.declared.cmp.Ordering.TheVariants.{Less}
use Rattle.resb_tree.specs.Tree.{Tree, array, table}
use Rattle.resb_tree.specs.Tree.{Trees, no_trees, more_trees, Entries, no_entries, entry}
use Rattle.resb_tree.specs.Maps.{text_cmp, AreMaps}
use Rattle.resb_diff.specs.Differences.{Step, by_key, by_number}
use Rattle.resb_diff.specs.Differences.{Difference, added, removed, changed, differences}
use Rattle.resb_diff.specs.Laws.{after_step}

-- the entries behind a tree at the key k, or behind none
abbrev pub entry_first : List ℕ → Option Tree → Entries → Entries
entry_first k None es = es
entry_first k (Some t) es = entry k t es

-- the entries with a tree at the key k, or with none there
abbrev pub with_key : List ℕ → Option Tree → Entries → Entries
with_key k o no_entries = entry_first k o no_entries
with_key k o (entry l u es) =
    match_ordering (text_cmp k l) (entry_first k o (entry l u es)) (entry_first k o es)
    (entry l u (with_key k o es))

-- the trees behind a tree, or behind none
abbrev pub tree_first : Option Tree → Trees → Trees
tree_first None ts = ts
tree_first (Some t) ts = more_trees t ts

-- the trees with another in the place of that of number n, or without that of number n, so that
-- those behind it move up. Where there are not so many, the other one comes behind all
abbrev pub with_number : ℕ → Option Tree → Trees → Trees
with_number n o no_trees = tree_first o no_trees
with_number zero o (more_trees t ts) = tree_first o ts
with_number (suc n) o (more_trees t ts) = more_trees t (with_number n o ts)

-- a table or an array with a tree, or with none, where a step leads to
abbrev pub with_step : Step → Option Tree → Tree → Tree
with_step (by_key k) o (table es) = table (with_key k o es)
with_step (by_number n) o (array ts) = array (with_number n o ts)
with_step s o t = t

-- a tree with another one at a path, or with none there. None is where the path leads nowhere
abbrev pub with_at : List Step → Option Tree → Option Tree → Option Tree
with_at [] o t = o
with_at (s ∷ p) o None = None
with_at (s ∷ p) o (Some t) = Some (with_step s (with_at p o (after_step s t)) t)

-- a tree with differences carried out: what was added, and what was changed, is put there first,
-- and then the differences behind it are carried out; what was removed is taken away after those,
-- so that the numbers behind it stay until then
abbrev pub applied : List Difference → Option Tree → Option Tree
applied [] o = o
applied (added p u ∷ ds) o = applied ds (with_at p (Some u) o)
applied (changed p t u ∷ ds) o = applied ds (with_at p (Some u) o)
applied (removed p t ∷ ds) o = with_at p None (applied ds o)

-- the path of a difference
abbrev pub path_of : Difference → List Step
path_of (added p u) = p
path_of (removed p t) = p
path_of (changed p t u) = p

-- a step is before another: a key by its bytes, a number by its size
abbrev pub StepBefore : Step → Step → Type 0
StepBefore (by_key k) (by_key l) = text_cmp k l ≡ Less
StepBefore (by_number m) (by_number n) = m < n
StepBefore s r = ⊥

-- a path is before another: their steps are the same up to one where its own is before the other's,
-- so that neither goes on from the other
abbrev pub Before : List Step → List Step → Type 0
Before (s ∷ p) (r ∷ q) = StepBefore s r ⊎ ((s ≡ r) × Before p q)
Before p q = ⊥

-- a difference is no change of an array to an array or of a table to a table
abbrev pub IsWhole : Difference → Type 0
IsWhole (changed p (array ts) (array us)) = ⊥
IsWhole (changed p (table es) (table fs)) = ⊥
IsWhole d = Unit {0}

-- differences make a tree of another: carried out on the old one they give the new one, without any
-- one of them they don't, none changes an array to an array or a table to a table, and their paths
-- ascend
pub record Make (old new : Tree) (ds : List Difference) : Type 0 where
  pub gives : applied ds (Some old) ≡ Some new
  pub needs : (es fs : List Difference) (d : Difference) → ds ≡ es ++ d ∷ fs
      → applied (es ++ fs) (Some old) ≢ Some new
  pub whole : All IsWhole ds
  pub ascend : AllPairs (λ d e. Before (path_of d) (path_of e)) ds

-- the differences between two trees whose tables are maps make the new one of the old one
abbrev pub DifferencesMake : Type 0
DifferencesMake = (t u : Tree) → AreMaps t → AreMaps u → Make t u (differences [] t u)
