-- An iteration adds the text of the next resource.
use Rattle.std.proofs.Common.{◌≡◌, ◌<◌, ◌++◌, ◌∷◌, [], length, take, sym, ap, ◌∙◌, arith}
use Rattle.std.proofs.Common.{append-nil, ◌+◌}
use Rattle.std.proofs.lemmas.List.{map_more}
use Rattle.std.proofs.lemmas.List.Concat.{flat_map-append}
use Rattle.std.specs.List.{flat_map}
use Rattle.resb_tree.specs.View.{tree_of}
use Rattle.resb_tree.specs.LayingOrder.{text_in, trees_in}
use Rattle.resb_pool_maker.proofs.gathering.texts_in.Goals as goal

pub loop-at-preserved : goal.loop-at-preserved
loop-at-preserved c =
    let order = c.args.order.now.items in
    let i = c.loop-at.at in
    let d = c.index.result.now in
    let seen = trees_in (take i order) in
    let h : c.loop-at.at < length order =
    omega (arith, c.loop-at-test.true, c.len-at-end.ensures, c.args.order.now.ok.0) in
    let more : trees_in (take (i + 1) order) ≡ seen ++ tree_of d.now ∷ [] =
    map_more (λ r. tree_of r.now) order i d h
    ∙ ap (λ r. seen ++ tree_of r.now ∷ []) (sym c.index.ensures) in
    c.in_ok-add_text.ensures
    ∙ ap (λ z. z ++ text_in (tree_of d.now)) c.loop-at.invariant
    ∙ ap (λ ks. flat_map text_in seen ++ ks) (sym (append-nil (text_in (tree_of d.now))))
    ∙ sym (flat_map-append text_in seen (tree_of d.now ∷ []))
    ∙ ap (flat_map text_in) (sym more)
