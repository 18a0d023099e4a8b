use Rattle.std.proofs.Common.{◌≡◌, ◌∙◌, ◌++◌, false, sym, ap, encode_utf8, arith}
use Rattle.std.specs.Prelude.{◌==◌}
use Rattle.std.specs.String.{string_bytes}
use Rattle.std.proofs.lemmas.Bool.{or_from}
use Rattle.std.specs.Char.{is_ascii_control}
use Rattle.resb_print.proofs.Lists.{writes_bytes}
use Rattle.resb_icu_print.specs.Printed.{is_marked}
use Rattle.resb_icu_print.proofs.Strings.{plain_character, no_control}
use Rattle.resb_icu_print.proofs.Lists.{unequal_to}
use Rattle.resb_icu_print.proofs.quoting.push_character.Goals as goal

pub returns : goal.returns
returns c =
    let m : is_marked c.args.c ≡ false =
    or_from (c.args.c == 34) (c.args.c == 92) (unequal_to c.args.c 34 c.if-c-eq34.false)
    (unequal_to c.args.c 92 c.if-c-eq92.false) in
    let k : is_ascii_control c.args.c ≡ false =
    no_control c.args.c (omega (arith, c.if-code-lt32.false)) c.if-code-eq127.false in
    let old = string_bytes c.args.out.now in
    let w = encode_utf8 c.args.c in
    λ rest.
    writes_bytes c.args.out.now c.push-2.new.self w c.in_ok-push-2.ensures.bytes rest
    ∙ ap (λ l. old ++ l) (sym (plain_character c.args.c rest m k))
