use Rattle.std.proofs.Common.{sym, subst}
use Rattle.std.proofs.lemmas.Result.{IfOk-weaker}
use Rattle.resb_print.specs.Held.{IsHeld}
use Rattle.resb_lines.proofs.Ascending.{keys_ascend}
use Rattle.resb_lines.proofs.causes.find_cause.Goals as goal

pub returns-clause-held : goal.returns-clause-held
returns-clause-held g c =
    IfOk-weaker c.find_inside.result _ _ (λ found h e.
    subst IsHeld (sym c.in-Table.ensures.0)
    (keys_ascend (g.S.Shown.entries c.in-Table.entries) c.in-Table.ensures.1, h e))
    c.find_inside.ensures.held
