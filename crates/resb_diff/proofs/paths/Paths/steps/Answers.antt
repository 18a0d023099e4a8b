use Rattle.std.proofs.Common.{◌∙◌, ◌++◌, map, reverse, ap, sym}
use Rattle.resb_diff.specs.Paths.{step_of}
use Rattle.resb_diff.proofs.PathLemmas.{steps-reverse}
use Rattle.resb_diff.proofs.paths.Paths.steps.Goals as goal

pub returns : goal.returns
returns c =
    ap (map step_of) c.reverse.ensures.items
    ∙ steps-reverse c.loop-node.steps.items
    ∙ ap (λ l. l ++ reverse (map step_of c.loop-node.steps.items)) (sym c.in_default.ensures)
    ∙ c.loop-node.invariant
