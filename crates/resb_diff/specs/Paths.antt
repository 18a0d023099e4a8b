-- What steps stand for, and the paths that go on from one another.
use Rattle.std.specs.Prelude.{ℕ, ◌+◌, ◌<◌, List, [], ◌∷◌, ◌++◌, slice_index_or}
use Rattle.resb_diff.specs.Differences.{Step, by_key, by_number}
use Rattle.resb_diff.specs.declared.paths.PathStep.{PathStep}
use Rattle.resb_diff.specs.declared.paths.PathStep.TheVariants.{Key, Number}
use Rattle.resb_diff.specs.declared.paths.Node.{Node}

-- the step to a key, or to a number
abbrev pub step_of : PathStep → Step
step_of (Key k) = by_key k.now
step_of (Number n) = by_number n

-- the paths so far, and behind them that of each node: the path from which it goes on, and its step
abbrev pub paths_behind : List (List Step) → List Node → List (List Step)
paths_behind ps [] = ps
paths_behind ps (n ∷ ns) =
    paths_behind (ps ++ (slice_index_or ps n.from [] ++ step_of n.step ∷ []) ∷ []) ns

-- the paths of nodes, behind the one that has no step
abbrev pub paths_of : List Node → List (List Step)
paths_of ns = paths_behind ([] ∷ []) ns

-- each node goes on from one of the paths before its own, of which the first node has n
abbrev pub GoOn : ℕ → List Node → Type 0
GoOn n [] = Unit {0}
GoOn n (m ∷ ms) = (m.from < n) × GoOn (n + 1) ms
