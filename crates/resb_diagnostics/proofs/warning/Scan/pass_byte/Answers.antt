-- A byte that is a piece, behind blanks.
use Rattle.std.proofs.Common.{◌+◌, [], Some}
use Rattle.resb_diagnostics.specs.Inner.Looks.{text_piece_of}
use Rattle.std.specs.Prelude.{slice_index}
use Rattle.resb_diagnostics.proofs.Passing.{goes_behind}
use Rattle.resb_diagnostics.proofs.TokenRuns.{sign_goes_on, piece_sign}
use Rattle.resb_diagnostics.proofs.warning.Scan.pass_byte.Goals as goal

pub pass-requires-clause-token : goal.pass-requires-clause-token
pass-requires-clause-token c =
    let self = c.args.self.now in
    let text = self.text.now in
    let at = c.args.at in
    let p = text_piece_of c.args.piece in
    goes_behind text self.at at (at + 1) [] (Some p) c.requires.passes
    (sign_goes_on text at (Some p) c.requires.fits c.requires.between
    (piece_sign text at (slice_index text at) p c.requires.is_piece))
