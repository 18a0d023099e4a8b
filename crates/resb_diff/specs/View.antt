-- What changes stand for, by themselves and in a list of differences.
use Rattle.std.specs.Prelude.{List, [], map, slice_index_or}
use Rattle.resb_tree.specs.View.{tree_of}
use Rattle.resb_diff.specs.Differences.{Step, Difference, added, removed, changed}
use Rattle.resb_diff.specs.Paths.{step_of}
use Rattle.resb_diff.specs.declared.differences.Change.{Change}
use Rattle.resb_diff.specs.declared.differences.Change.TheVariants.{Added, Removed, Changed}
use Rattle.resb_diff.specs.declared.differences.Found.{Found}
use Rattle.resb_diff.specs.declared.differences.Differences.{Differences}
use Rattle.resb_diff.specs.declared.differences.ChangeAt.{ChangeAt}

-- the difference that a change is at a path
abbrev pub named : List Step → Change → Difference
named p (Added u) = added p (tree_of u.now)
named p (Removed t) = removed p (tree_of t.now)
named p (Changed t u) = changed p (tree_of t.now) (tree_of u.now)

-- the differences that changes are, by the paths of their numbers
abbrev pub listed : List (List Step) → List Found → List Difference
listed ps fs = map (λ f. named (slice_index_or ps f.path []) f.change) fs

-- the differences that are listed
abbrev pub differences_in : Differences → List Difference
differences_in d = listed d.paths d.found.items

-- the difference that a change is at the path that stands beside it
abbrev pub difference_at : ChangeAt → Difference
difference_at c = named (map step_of c.path.items) c.change
