use Rattle.std.proofs.Common.{◌≡◌, rules, ap, ◌∙◌}
use Rattle.std.specs.Char.Utf16.{lone_unit_char}
use Rattle.std.specs.Option.{unwrap_or}
use Rattle.resb_walk.proofs.units.lone_char.Goals as goal

pub returns : goal.returns
returns c =
    let same : c.from_u32.result ≡ lone_unit_char c.args.unit = search rules in
    c.unwrap_or.ensures ∙ ap (λ found. unwrap_or found 0xFFFD) same
