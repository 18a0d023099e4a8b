-- A number is one of a whole piece, which fits the tree at its place.
use Rattle.std.proofs.Common.{◌≡◌, ◌<◌, ◌∙◌, ℕ, true, List, length, arith, get_or, sym, ap}
use Rattle.std.proofs.lemmas.List.{length-map, get_or_default, get_or-map}
use Rattle.resb_draft.specs.Drafts.{tree_at, is_whole}
use Rattle.resb_draft.specs.Pieces.{is_piece}
use Rattle.resb_draft.specs.declared.draft.Piece.{Piece}
use Rattle.resb_draft.proofs.Lists.{all_at}
use Rattle.resb_draft.proofs.Whole.{whole_inside, whole_piece}
use Rattle.resb_tree.specs.Tree.{Tree}
use Rattle.resb_write.specs.Inner.Nodes.{no_tree}
use Rattle.resb_write.specs.Inner.Numbered.{TakesPieces}
use Rattle.resb_write.proofs.drafts.NumberedPiecesNodes.node.Goals as goal

few : (ps : List Piece) (ns : List ℕ) (ts : List Tree) (f : TakesPieces ps ns ts) (i : ℕ)
    → i < length ts → i < length ns
few ps ns ts f i h = omega (arith, h, ap length f.trees, length-map ns (tree_at f.draft))

-- the number at a place is one of a piece
inside : (ps : List Piece) (ns : List ℕ) (ts : List Tree) (f : TakesPieces ps ns ts) (i : ℕ)
    → i < length ts → get_or ns i 0 < length ps
inside ps ns ts f i h =
    let w = all_at (is_whole f.draft) ns i (few ps ns ts f i h) f.whole in
    omega (arith, whole_inside f.draft (get_or ns i 0) w, ap length f.pieces)

fits : (ps : List Piece) (ns : List ℕ) (ts : List Tree) (f : TakesPieces ps ns ts) (i n : ℕ)
    (p : Piece) → i < length ts → n ≡ get_or ns i n → p ≡ get_or ps n p
    → is_piece p (get_or ts i no_tree) ≡ true
fits ps ns ts f i n p h e is =
    let d = f.draft in
    let k = few ps ns ts f i h in
    let w = all_at (is_whole d) ns i k f.whole in
    let z : n ≡ get_or ns i 0 = e ∙ get_or_default ns i n 0 k in
    let t : get_or ts i no_tree ≡ tree_at d n =
    ap (λ us. get_or us i no_tree) (sym f.trees) ∙ get_or-map (tree_at d) ns i 0 no_tree k
    ∙ ap (tree_at d) (sym z) in
    ap (is_piece p) t
    ∙ whole_piece d n p (is ∙ ap (λ qs. get_or qs n p) (sym f.pieces))
    (ap (is_whole d) z ∙ w)

pub index-requires : goal.index-requires
index-requires c =
    let r = c.requires in
    omega (arith, few _ _ r.0 r.1 c.args.at r.2, c.args.self.now.numbers.ok.0)

pub index-requires-2 : goal.index-requires-2
index-requires-2 c =
    let r = c.requires in
    let ps = c.args.self.now.pieces.items in
    let ns = c.args.self.now.numbers.items in
    let i = c.args.at in
    omega (
      arith,
      inside ps ns r.0 r.1 i r.2,
      c.index.ensures ∙ get_or_default ns i c.index.result.now 0 (few ps ns r.0 r.1 i r.2),
      c.args.self.now.pieces.ok.0,
    )

pub returns : goal.returns
returns c = λ ts f h.
    c.piece_node.ensures (get_or ts c.args.at no_tree)
    (fits c.args.self.now.pieces.items c.args.self.now.numbers.items ts f c.args.at
    c.index.result.now c.index-2.result.now h c.index.ensures c.index-2.ensures)
