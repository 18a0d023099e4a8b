use Rattle.std.proofs.Common.{◌∙◌, sym, ap, arith}
use Rattle.std.specs.Ordering.{is_lt}
use Rattle.resb_draft.proofs.EntriesLemmas.{keys_more}
use Rattle.resb_draft.proofs.entries.ascend.Goals as goal

pub loop-at-preserved : goal.loop-at-preserved
loop-at-preserved c = record {
  ascend = keys_more c.args.keys.now c.loop-at.at _ _ (omega (arith, c.loop-at.auto.at))
      (omega (arith, c.loop-at-test.true, c.loop-at.auto.at-end)) c.loop-at.invariant.ascend
      (ap is_lt (sym c.cmp.ensures) ∙ sym c.is_lt.ensures ∙ c.if-not-is_lt.false);
}
