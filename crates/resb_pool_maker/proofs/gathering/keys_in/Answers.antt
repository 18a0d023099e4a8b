-- An iteration joins the keys of the next resource.
use Rattle.std.proofs.Common.{◌≡◌, ◌<◌, ◌++◌, ◌∷◌, [], length, take, sym, ap, ◌∙◌, arith}
use Rattle.std.proofs.Common.{append-nil, ◌+◌, fold}
use Rattle.std.proofs.lemmas.List.{map_more}
use Rattle.std.proofs.lemmas.List.Concat.{flat_map-append}
use Rattle.std.proofs.lemmas.List.Sums.{fold-append}
use Rattle.std.specs.List.{flat_map}
use Rattle.resb_tree.specs.View.{tree_of}
use Rattle.resb_tree.specs.LayingOrder.{own_keys, trees_in}
use Rattle.resb_pool_maker.specs.PoolOf.{join_key, each_once}
use Rattle.resb_pool_maker.proofs.gathering.keys_in.Goals as goal

pub loop-at-preserved : goal.loop-at-preserved
loop-at-preserved c =
    let order = c.args.order.now.items in
    let i = c.loop-at.at in
    let d = c.index.result.now in
    let seen = trees_in (take i order) in
    let h : c.loop-at.at < length order =
    omega (arith, c.loop-at-test.true, c.len-at-end.ensures, c.args.order.now.ok.0) in
    let more : trees_in (take (i + 1) order) ≡ seen ++ tree_of d.now ∷ [] =
    map_more (λ r. tree_of r.now) order i d h
    ∙ ap (λ r. seen ++ tree_of r.now ∷ []) (sym c.index.ensures) in
    c.in_ok-join_own.ensures
    ∙ ap (λ z. fold join_key z (own_keys (tree_of d.now))) c.loop-at.invariant
    ∙ sym (fold-append join_key [] (flat_map own_keys seen) (own_keys (tree_of d.now)))
    ∙ ap each_once (ap (λ ks. flat_map own_keys seen ++ ks) (sym (append-nil (own_keys
    (tree_of d.now))))
    ∙ sym (flat_map-append own_keys seen (tree_of d.now ∷ []))
    ∙ ap (flat_map own_keys) (sym more))
