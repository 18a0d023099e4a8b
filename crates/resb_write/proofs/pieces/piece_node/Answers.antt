use Rattle.std.proofs.Common.{◌≡◌, true, subst}
use Rattle.resb_draft.specs.Pieces.{is_piece}
use Rattle.resb_write.proofs.PiecesLemmas.{entries_fit}
use Rattle.resb_write.proofs.pieces.piece_node.Goals as goal

pub returns-in-Table : goal.returns-in-Table
returns-in-Table c = λ t fits.
    entries_fit c.in-Table.part.count t (subst (λ p. is_piece p t ≡ true) c.in-Table.is fits)
