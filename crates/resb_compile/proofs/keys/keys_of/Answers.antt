-- An iteration lists the keys of the next resource.
use Rattle.std.proofs.Common.{◌≡◌, ◌<◌, ◌++◌, ◌∷◌, [], length, take, sym, ap, ◌∙◌, arith}
use Rattle.std.proofs.Common.{append-nil, ◌+◌}
use Rattle.std.proofs.lemmas.List.{map_more}
use Rattle.std.proofs.lemmas.List.Concat.{flat_map-append}
use Rattle.std.specs.List.{flat_map}
use Rattle.resb_tree.specs.View.{tree_of}
use Rattle.resb_tree.specs.LayingOrder.{own_keys, trees_in}
use Rattle.resb_grammar.specs.BundleText.{first_places}
use Rattle.resb_compile.proofs.keys.keys_of.Goals as goal

pub loop-at-preserved : goal.loop-at-preserved
loop-at-preserved c =
    let order = c.in_ok-order.order.items in
    let i = c.loop-at.at in
    let d = c.index.result.now in
    let seen = trees_in (take i order) in
    let h : c.loop-at.at < length order =
    omega (arith, c.loop-at-test.true, c.len-at-end.ensures, c.in_ok-order.order.ok.0) in
    let more : trees_in (take (i + 1) order) ≡ seen ++ tree_of d.now ∷ [] =
    map_more (λ r. tree_of r.now) order i d h
    ∙ ap (λ r. seen ++ tree_of r.now ∷ []) (sym c.index.ensures) in
    c.in_ok-list_own.ensures (flat_map own_keys seen) c.loop-at.invariant
    ∙ ap first_places (ap (λ ks. flat_map own_keys seen ++ ks) (sym (append-nil (own_keys
    (tree_of d.now))))
    ∙ sym (flat_map-append own_keys seen (tree_of d.now ∷ []))
    ∙ ap (flat_map own_keys) (sym more))
