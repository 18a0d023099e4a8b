-- Blanks are quiet.
use Rattle.resb_diagnostics.proofs.TokenRuns.{behind_blanks}
use Rattle.resb_diagnostics.proofs.warning.Scan.behind_blanks.Goals as goal

pub returns : goal.returns
returns c =
    let self = c.args.self.now in
    let (between, passes) = behind_blanks self.text.now self.at c.blanks_end.result
    (c.requires.reads.between c.requires.more) c.blanks_end.ensures in
    record { fits = c.blanks_end.ensures.fits; between = between; passes = passes }
