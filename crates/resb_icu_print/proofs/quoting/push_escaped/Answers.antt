use Rattle.std.proofs.Common.{◌∙◌, ◌++◌, sym, ap, encode_utf8}
use Rattle.std.specs.String.{string_bytes}
use Rattle.std.specs.Str.Iter.{chars_rest}
use Rattle.resb_icu_print.specs.Printed.{inside_on}
use Rattle.resb_icu_print.proofs.Strings.{inside_append}
use Rattle.resb_icu_print.proofs.quoting.push_escaped.Goals as goal

pub loop-c-preserved : goal.loop-c-preserved
loop-c-preserved c =
    let now = string_bytes c.loop-c.out in
    let later = chars_rest c.next.new.self in
    let character = encode_utf8 c.in-Some.c in
    λ rest.
    c.in_ok-push_character.ensures (inside_on later rest)
    ∙ ap (λ l. now ++ l) (sym (inside_append character later rest)
    ∙ ap (λ l. inside_on l rest) (sym c.in-Some.ensures.steps.0)) ∙ c.loop-c.invariant rest
