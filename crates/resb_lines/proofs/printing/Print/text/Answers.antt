-- What was found is why the bundle isn't printed, and where nothing was, what is made is a text.
use Rattle.std.proofs.Common.{◌≡◌, ◌∙◌, sym, ap, subst, Some, None}
use Rattle.resb_print.specs.Paths.{steps_in}
use Rattle.resb_lines.specs.Causes.{found_as}
use Rattle.resb_lines.specs.Lines.{IsTextWithin}
use Rattle.resb_lines.specs.Printing.{printed_as, cause_in, most_of}
use Rattle.resb_lines.proofs.Printed.{refuses, is_text}
use Rattle.resb_lines.proofs.printing.Print.text.Goals as goal

pub returns-in-Some-clause-err : goal.returns-in-Some-clause-err
returns-in-Some-clause-err g c =
    let bundle = c.args.bundle.now in
    refuses c.args.self bundle.name.now bundle.is_locale_fallback_enabled
    (g.S.Shown.tree bundle.root) (steps_in c.in-Some.field-0-0.items) c.in-Some.cause
    (sym (ap found_as c.in-Some.is) ∙ c.in_ok-cause.ensures.found)

pub returns-in-Some-default-clause-text : goal.returns-in-Some-default-clause-text
returns-in-Some-default-clause-text g c =
    let bundle = c.args.bundle.now in
    let flag = bundle.is_locale_fallback_enabled in
    let t = g.S.Shown.tree bundle.root in
    let none : cause_in c.args.self.form bundle.name.now t ≡ None =
    sym c.in_ok-cause.ensures.found ∙ ap found_as c.in_default.is in
    let made : IsTextWithin (most_of c.args.self)
    (printed_as c.args.self.form bundle.name.now flag t) (Some c.in-Some-default.text) =
    subst (IsTextWithin (most_of c.args.self)
    (printed_as c.args.self.form bundle.name.now flag t)) c.in-Some-default.is-0
    c.in_ok-text.ensures in
    is_text c.args.self.form bundle.name.now flag t _ none
    (c.in_ok-cause.ensures.held c.in_default.is) made.0
