-- The steps that are known already end the path of the number.
use Rattle.std.proofs.Common.{◌≡◌, ◌++◌, [], map, reverse, get_or}
use Rattle.resb_diff.specs.Paths.{step_of}
use Rattle.resb_diff.proofs.paths.Paths.steps.Given as goal

abbrev pub invariant-loop-node : goal.invariant-loop-node
invariant-loop-node l =
    get_or l.self l.number [] ++ reverse (map step_of l.steps.items) ≡ get_or l.self l.fn.number []

abbrev pub decreases-loop-node : goal.decreases-loop-node
decreases-loop-node l = l.number
