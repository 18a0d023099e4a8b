use Rattle.std.proofs.Common.{◌≡◌, true, arith, get_or, sym, subst}
use Rattle.resb_draft.specs.Pieces.{is_piece}
use Rattle.resb_write.specs.Inner.Nodes.{no_tree}
use Rattle.resb_write.proofs.PiecesLemmas.{pieces_long, piece_at}
use Rattle.resb_write.proofs.pieces.VecPieceNodes.node.Goals as goal

pub index-requires : goal.index-requires
index-requires c =
    let r = c.requires in
    omega (arith, r.2, pieces_long c.args.self.now.items r.0 r.1, c.args.self.now.ok.0)

pub returns : goal.returns
returns c = λ ts f h.
    let ps = c.args.self.now.items in
    let t = get_or ts c.args.at no_tree in
    c.piece_node.ensures t (subst (λ p. is_piece p t ≡ true) (sym c.index.ensures)
    (piece_at ps ts c.args.at c.index.result.now f (omega (arith, h, pieces_long ps ts f))))
