-- No token stands among blanks.
use Rattle.resb_diagnostics.proofs.IcuTokenRuns.{behind_blanks}
use Rattle.resb_diagnostics.proofs.icu_walk.IcuWalk.pass_blanks.Goals as goal

pub passed-self-requires-clause-silence : goal.passed-self-requires-clause-silence
passed-self-requires-clause-silence c =
    let (between, passes, silence) = behind_blanks c.args.self.now.text.now c.args.self.now.at
    c.blanks_end-end.result (c.requires.walk.between c.requires.more) c.blanks_end-end.ensures in
    silence

pub returns-clause-walk : goal.returns-clause-walk
returns-clause-walk c =
    let old = c.requires.walk in
    let (between, passes, silence) = behind_blanks c.args.self.now.text.now c.args.self.now.at
    c.blanks_end-end.result (old.between c.requires.more) c.blanks_end-end.ensures in record {
      text = old.text;
      fits = passes.fits;
      between = λ _. between;
      before = λ _. c.passed-self.ensures;
    }

pub returns-clause-passes : goal.returns-clause-passes
returns-clause-passes c =
    let old = c.requires.walk in
    let (between, passes, silence) = behind_blanks c.args.self.now.text.now c.args.self.now.at
    c.blanks_end-end.result (old.between c.requires.more) c.blanks_end-end.ensures in
    passes
