-- The string ends at its second quote.
use Rattle.resb_diagnostics.proofs.StringRuns.{whole_string}
use Rattle.resb_diagnostics.proofs.text_pieces.closed_string.Goals as goal

pub returns : goal.returns
returns c =
    whole_string c.args.text.now c.args.at c.args.end c.args.backslash c.requires.between
    c.requires.quote c.requires.closes c.requires.found
