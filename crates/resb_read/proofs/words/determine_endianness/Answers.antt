use Rattle.std.proofs.Common.{◌∙◌}
use Rattle.std.proofs.lemmas.List.{get_or-drop}
use Rattle.resb_read.proofs.words.determine_endianness.Goals as goal

pub returns : goal.returns
returns c =
    let h = c.in_ok-header.ensures in
    (h.0, h.1.info.endianness ∙ get_or-drop 4 c.args.bytes.now 4 0)
