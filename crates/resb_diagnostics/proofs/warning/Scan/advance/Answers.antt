-- What stands behind blanks, and the text's end.
use Rattle.std.proofs.Common.{arith}
use Rattle.std.specs.Option.{option_map}
use Rattle.resb_diagnostics.specs.Inner.Looks.{text_piece_of}
use Rattle.resb_diagnostics.specs.Inner.Tokens.{of_some_backslash}
use Rattle.resb_diagnostics.proofs.Passing.{goes_behind, quiet_end}
use Rattle.resb_diagnostics.proofs.warning.Scan.advance.Goals as goal

pub pass-requires-clause-token : goal.pass-requires-clause-token
pass-requires-clause-token c =
    let self = c.args.self.now in
    let more = c.requires.more in
    let end = c.if-at-text.true in
    quiet_end self.text.now self.at c.behind_blanks-at.result (omega (arith, more, end))
    (omega (arith, end)) c.behind_blanks-at.ensures.passes

pub pass-requires-in_default-clause-token : goal.pass-requires-in_default-clause-token
pass-requires-in_default-clause-token c =
    let self = c.args.self.now in
    let t = c.token_at.result in
    goes_behind self.text.now self.at c.behind_blanks-at.result t.end
    (of_some_backslash t.backslash) (option_map text_piece_of t.piece)
    c.behind_blanks-at.ensures.passes c.token_at.ensures
