use Rattle.std.proofs.Common.{sym, ◌∙◌}
use Rattle.resb_write.proofs.PiecesLemmas.{pieces_long}
use Rattle.resb_write.proofs.pieces.VecPieceNodes.count.Goals as goal

pub returns : goal.returns
returns c = λ ts f.
    pieces_long c.args.self.now.items ts f ∙ sym (c.len.ensures ∙ c.args.self.now.ok.0)
