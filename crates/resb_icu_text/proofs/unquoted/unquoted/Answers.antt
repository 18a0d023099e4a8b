use Rattle.std.proofs.Common.{arith}
use Rattle.resb_icu_text.proofs.UnquotedLemmas.{begins_no_more}
use Rattle.resb_icu_text.proofs.unquoted.unquoted.Goals as goal

pub returns-else-from-to-clause-stops : goal.returns-else-from-to-clause-stops
returns-else-from-to-clause-stops c =
    begins_no_more c.args.text.now c.args.from c.unquoted_end-to.result
    c.unquoted_end-to.ensures.run
    (omega (arith, c.if-from-to.false))
