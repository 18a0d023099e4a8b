use Rattle.std.proofs.Common.{◌∙◌, sym}
use Rattle.resb_icu_text.proofs.UnquotedLemmas.{goes_further}
use Rattle.resb_icu_text.proofs.unquoted.unquoted_end.Goals as goal

pub loop-at-preserved : goal.loop-at-preserved
loop-at-preserved c = record {
  each = goes_further c.args.text.now c.args.from c.loop-at.at c.loop-at.invariant.each
      (sym c.goes_on.ensures ∙ c.if-not-goes_on.false);
}
