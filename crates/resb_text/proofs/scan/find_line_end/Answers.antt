use Rattle.std.proofs.Common.{arith}
use Rattle.resb_grammar.specs.ByteRuns.{is_line_end}
use Rattle.resb_text.proofs.scan.find_line_end.Goals as goal
use Rattle.resb_text.proofs.Lists.{rest_of, none_passes_before}

pub returns-in-Some-clause-line : goal.returns-in-Some-clause-line
returns-in-Some-clause-line c =
    none_passes_before is_line_end c.args.text.now _ c.args.from c.in-Some.n
    (rest_of c.args.text.now c.as_bytes.result.now c.args.from
    c.as_bytes.ensures.value)
    (λ k lt is. c.in-Some.ensures.0.before k (omega arith) lt is)

pub returns-in-None-clause-line : goal.returns-in-None-clause-line
returns-in-None-clause-line c =
    none_passes_before is_line_end c.args.text.now _ c.args.from _
    (rest_of c.args.text.now c.as_bytes.result.now c.args.from
    c.as_bytes.ensures.value)
    (λ k lt is. c.in-None.ensures k (omega arith) lt is)
