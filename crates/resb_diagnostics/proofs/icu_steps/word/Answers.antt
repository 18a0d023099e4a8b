use Rattle.resb_diagnostics.proofs.IcuTokenRuns.{word_step}
use Rattle.resb_diagnostics.proofs.icu_steps.word.Goals as goal

pub returns : goal.returns
returns c =
    word_step c.args.text.now c.args.at c.icu_word_end-end.result c.requires.fits
    c.requires.between c.requires.word c.icu_word_end-end.ensures c.nothing.result
    c.nothing.ensures.0 c.nothing.ensures.1
