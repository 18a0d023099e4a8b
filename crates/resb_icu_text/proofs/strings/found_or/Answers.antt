use Rattle.std.proofs.Common.{sym, ◌∙◌, arith}
use Rattle.resb_icu_text.specs.Inner.Found.{IsFound}
use Rattle.resb_icu_text.proofs.QuotaLemmas.{match_by, match_fails}
use Rattle.resb_icu_text.proofs.StringsLemmas.{alone, fault_fails, part_fails}
use Rattle.resb_icu_text.proofs.strings.found_or.Goals as goal

pub returns-in_err-first-clause-reads : goal.returns-in_err-first-clause-reads
returns-in_err-first-clause-reads c =
    match_fails _ _ _ c.from_residual.ensures.1
    (part_fails c.args.text.now c.args.from c.args.expected _ c.in_err-first.ensures.reads)

pub returns-then-another_follows-clause-reads : goal.returns-then-another_follows-clause-reads
returns-then-another_follows-clause-reads c =
    match_by (IsFound c.args.text.now c.args.from) _ _ _ c.with_more.result (λ f is. is)
    (λ e h. fault_fails c.args.text.now c.args.from c.args.expected e h) c.with_more.ensures.reads

pub returns-clause-reads : goal.returns-clause-reads
returns-clause-reads c =
    let is = c.in_ok-first.ensures.reads in
    alone c.args.text.now c.args.from c.in_ok-first.first is
    (sym (c.another_follows.ensures is) ∙ c.if-another_follows.false)
