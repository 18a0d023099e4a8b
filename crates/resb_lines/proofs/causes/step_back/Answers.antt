use Rattle.std.proofs.Common.{◌∙◌, ◌-◌, ap, arith}
use Rattle.std.specs.Vec.{vec_len}
use Rattle.resb_print.specs.Paths.{steps_in}
use Rattle.resb_lines.proofs.Looking.{popped_last}
use Rattle.resb_lines.proofs.causes.step_back.Goals as goal

pub returns-in_default-clause-path : goal.returns-in_default-clause-path
returns-in_default-clause-path c =
    let path = c.args.path.now in
    ap steps_in c.pop.ensures.rest
    ∙ popped_last path.items (vec_len path - 1) (omega (arith, path.ok.0))
