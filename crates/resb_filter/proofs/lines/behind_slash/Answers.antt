use Rattle.std.proofs.Common.{arith}
use Rattle.std.specs.Prelude.{None}
use Rattle.std.proofs.lemmas.Str.Pattern.{strip_prefix_char}
use Rattle.resb_filter.proofs.LineLemmas.{no_slash}
use Rattle.resb_filter.proofs.lines.behind_slash.Goals as goal

pub returns-in_default : goal.returns-in_default
returns-in_default c =
    let path = c.args.path.now in
    no_slash path (strip_prefix_char 47 path None c.in_default.ensures.cases (omega arith))
