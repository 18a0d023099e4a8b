-- An iteration joins the keys of the next piece.
use Rattle.std.proofs.Common.{◌≡◌, ◌<◌, ◌++◌, ◌∷◌, [], length, take, map, sym, ap, ◌∙◌, arith}
use Rattle.std.proofs.Common.{append-nil, ◌+◌, fold, get_or}
use Rattle.std.proofs.lemmas.List.{map_more}
use Rattle.std.proofs.lemmas.List.Concat.{flat_map-append}
use Rattle.std.proofs.lemmas.List.Sums.{fold-append}
use Rattle.std.specs.List.{flat_map}
use Rattle.resb_draft.specs.Drafts.{tree_at, is_whole}
use Rattle.resb_draft.proofs.Lists.{all_at}
use Rattle.resb_tree.specs.LayingOrder.{own_keys}
use Rattle.resb_pool_maker.specs.PoolOf.{join_key, each_once}
use Rattle.resb_pool_maker.proofs.drafts.keys_in.Goals as goal

pub own_keys-requires : goal.own_keys-requires
own_keys-requires c =
    all_at (is_whole c.args.draft.now) c.args.order.now c.loop-at.at
    (omega (arith, c.loop-at-test.true, c.loop-at.auto.at-end)) c.requires

pub loop-at-preserved : goal.loop-at-preserved
loop-at-preserved c =
    let d = c.args.draft.now in
    let order = c.args.order.now in
    let i = c.loop-at.at in
    let seen = map (tree_at d) (take i order) in
    let t = tree_at d (get_or order i 0) in
    let h : i < length order = omega (arith, c.loop-at-test.true, c.loop-at.auto.at-end) in
    let more : map (tree_at d) (take (i + 1) order) ≡ seen ++ t ∷ [] =
    map_more (tree_at d) order i 0 h in
    c.in_ok-join_all.ensures
    ∙ (λ i. fold join_key (c.loop-at.invariant i) (c.own_keys.ensures i))
    ∙ sym (fold-append join_key [] (flat_map own_keys seen) (own_keys t))
    ∙ ap each_once (ap (λ ks. flat_map own_keys seen ++ ks) (sym (append-nil (own_keys t)))
    ∙ sym (flat_map-append own_keys seen (t ∷ []))
    ∙ ap (flat_map own_keys) (sym more))
