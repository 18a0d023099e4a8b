use Rattle.std.proofs.Common.{arith, ◌∙◌, sym}
use Rattle.std.specs.Prelude.{None}
use Rattle.std.proofs.lemmas.Str.Pattern.{strip_prefix_char}
use Rattle.resb_filter.proofs.LineLemmas.{no_sign, not_some}
use Rattle.resb_filter.proofs.lines.signed_path.Goals as goal

pub returns : goal.returns
returns c =
    let line = c.args.line.now in
    let none = not_some c.strip_prefix.result (sym c.is_some.ensures ∙ c.if-is_some.false) in
    no_sign line (sym c.is_empty.ensures ∙ c.if-is_empty.false)
    (rw none at (strip_prefix_char 35 line c.strip_prefix.result c.strip_prefix.ensures.cases
    (omega arith)))
    (strip_prefix_char 43 line None c.in_default.ensures.cases (omega arith))
    (strip_prefix_char 45 line None c.in_default-strip_prefix.ensures.cases (omega arith))
