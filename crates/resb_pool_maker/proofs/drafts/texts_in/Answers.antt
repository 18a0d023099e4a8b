-- An iteration adds the text of the next piece.
use Rattle.std.proofs.Common.{◌≡◌, ◌<◌, ◌++◌, ◌∷◌, [], length, take, map, sym, ap, ◌∙◌, arith}
use Rattle.std.proofs.Common.{append-nil, ◌+◌, get_or}
use Rattle.std.proofs.lemmas.List.{map_more}
use Rattle.std.proofs.lemmas.List.Concat.{flat_map-append}
use Rattle.std.specs.List.{flat_map}
use Rattle.resb_draft.specs.Drafts.{tree_at, is_whole}
use Rattle.resb_draft.proofs.Lists.{all_at}
use Rattle.resb_draft.proofs.Whole.{whole_inside, whole_piece}
use Rattle.resb_tree.specs.LayingOrder.{text_in}
use Rattle.resb_pool_maker.proofs.drafts.texts_in.Goals as goal

pub index-requires : goal.index-requires
index-requires c =
    let d = c.args.draft.now in
    let order = c.args.order.now in
    let i = c.loop-at.at in
    let h : i < length order = omega (arith, c.loop-at-test.true, c.loop-at.auto.at-end) in
    omega (
      arith,
      whole_inside d (get_or order i 0) (all_at (is_whole d) order i h c.requires),
      d.pieces.ok.0,
    )

pub loop-at-preserved : goal.loop-at-preserved
loop-at-preserved c =
    let d = c.args.draft.now in
    let order = c.args.order.now in
    let i = c.loop-at.at in
    let n = get_or order i 0 in
    let seen = map (tree_at d) (take i order) in
    let t = tree_at d n in
    let h : i < length order = omega (arith, c.loop-at-test.true, c.loop-at.auto.at-end) in
    let whole = all_at (is_whole d) order i h c.requires in
    let more : map (tree_at d) (take (i + 1) order) ≡ seen ++ t ∷ [] =
    map_more (tree_at d) order i 0 h in
    c.in_ok-add_piece_text.ensures t
    (whole_piece d n c.index.result.now c.index.ensures whole)
    ∙ ap (λ z. z ++ text_in t) c.loop-at.invariant
    ∙ ap (λ ks. flat_map text_in seen ++ ks) (sym (append-nil (text_in t)))
    ∙ sym (flat_map-append text_in seen (t ∷ []))
    ∙ ap (flat_map text_in) (sym more)
