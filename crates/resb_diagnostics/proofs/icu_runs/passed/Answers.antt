-- What was behind a colon still is.
use Rattle.std.proofs.Common.{◌∙◌, sym}
use Rattle.resb_diagnostics.proofs.IcuPassing.{colon_stays}
use Rattle.resb_diagnostics.proofs.icu_runs.passed.Goals as goal

pub returns : goal.returns
returns c = record {
  ended = c.ended_behind.ensures;
  colon = c.requires.before.colon
      ∙ sym (colon_stays c.args.text.now c.args.from c.args.to c.requires.order
      c.requires.silence);
}
