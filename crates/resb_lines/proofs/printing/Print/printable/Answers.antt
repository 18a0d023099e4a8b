-- What was found is why the bundle isn't printed.
use Rattle.std.proofs.Common.{◌≡◌, ◌∙◌, sym, ap}
use Rattle.resb_print.specs.Paths.{steps_in}
use Rattle.resb_lines.specs.Causes.{found_as}
use Rattle.resb_lines.proofs.Printed.{refuses}
use Rattle.resb_lines.proofs.printing.Print.printable.Goals as goal

pub returns-in-Some-clause-err : goal.returns-in-Some-clause-err
returns-in-Some-clause-err g c =
    let bundle = c.args.bundle.now in
    refuses c.args.self bundle.name.now bundle.is_locale_fallback_enabled
    (g.S.Shown.tree bundle.root) (steps_in c.in-Some.field-0-0.items) c.in-Some.cause
    (sym (ap found_as c.in-Some.is) ∙ c.in_ok-cause.ensures.found)
