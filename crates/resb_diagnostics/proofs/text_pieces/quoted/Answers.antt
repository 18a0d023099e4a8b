-- A string that nothing closes, without a backslash and with one.
use Rattle.std.proofs.Common.{◌+◌, length, Some, None}
use Rattle.resb_diagnostics.proofs.StringRuns.{open_string, rest_told}
use Rattle.resb_diagnostics.proofs.Stops.{no_quote_here, backslash_first}
use Rattle.resb_diagnostics.proofs.text_pieces.quoted.Goals as goal

pub returns-in_default : goal.returns-in_default
returns-in_default c =
    let text = c.args.text.now in
    let at = c.args.at in
    let plain = c.in_default.ensures in
    let rest = c.open_string in
    rest_told text at None rest.result rest.ensures.piece rest.ensures.backslash rest.ensures.end
    (open_string text at None c.requires.fits c.requires.between c.requires.quote plain.quote
    plain.backslash)

pub returns-in_default-first_byte : goal.returns-in_default-first_byte
returns-in_default-first_byte c =
    let text = c.args.text.now in
    let at = c.args.at in
    let at_stop = c.in-Some.ensures in
    let rest = c.open_string-in_default-first_byte in
    rest_told text at (Some c.in-Some.stop) rest.result rest.ensures.piece rest.ensures.backslash
    rest.ensures.end
    (open_string text at (Some c.in-Some.stop) c.requires.fits c.requires.between c.requires.quote
    (no_quote_here text (at + 1) c.in-Some.stop (length text) at_stop
    c.in_default-first_byte.ensures)
    (backslash_first text (at + 1) c.in-Some.stop (length text) at_stop at_stop.fits
    c.if-text-stop-eq34.false))
