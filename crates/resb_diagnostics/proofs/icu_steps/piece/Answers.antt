use Rattle.resb_diagnostics.proofs.IcuTokenRuns.{piece_step}
use Rattle.resb_diagnostics.proofs.icu_steps.piece.Goals as goal

pub returns : goal.returns
returns c =
    piece_step c.args.text.now c.args.at c.quotes_end.result c.requires.fits c.requires.between
    c.requires.quote c.quotes_end.ensures c.nothing.result c.nothing.ensures.0 c.nothing.ensures.1
