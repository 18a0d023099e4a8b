use Rattle.std.proofs.Common.{rules}
use Rattle.std.specs.Char.{is_ascii_digit}
use Rattle.resb_grammar.proofs.ByteRunsLemmas.{each_more}
use Rattle.resb_grammar.proofs.BothReaders.{decimal_more}
use Rattle.resb_grammar.proofs.runs.digits_end.Goals as goal

pub loop-at-preserved : goal.loop-at-preserved
loop-at-preserved c = record {
  each =
      each_more is_ascii_digit c.args.bytes.now c.args.from c.loop-at.at c.loop-at.invariant.each
      (search rules);
  value =
      decimal_more c.args.bytes.now c.args.from c.loop-at.at c.loop-at.value _ (search rules)
      c.loop-at.invariant.value (search rules) (search rules);
}
