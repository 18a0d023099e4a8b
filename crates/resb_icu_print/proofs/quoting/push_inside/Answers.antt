use Rattle.std.proofs.Common.{◌∙◌, ◌++◌, sym, ap}
use Rattle.std.specs.String.{string_bytes}
use Rattle.resb_print.proofs.Lists.{writes_bytes}
use Rattle.resb_icu_print.proofs.Strings.{plain_inside}
use Rattle.resb_icu_print.proofs.quoting.push_inside.Goals as goal

pub returns : goal.returns
returns c =
    let old = string_bytes c.args.out.now in
    let text = c.args.text.now in
    λ rest.
    writes_bytes c.args.out.now c.push_str.new.self text c.in_ok-push_str.ensures.bytes rest
    ∙ ap (λ l. old ++ l) (sym (plain_inside text rest (sym c.if-has_escape.ensures)))
