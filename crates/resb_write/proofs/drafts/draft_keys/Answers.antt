-- An iteration adds the keys of the next one.
use Rattle.std.proofs.Common.{◌<◌, ◌++◌, length, take, map, sym, ap, ◌∙◌, arith, get_or, subst}
use Rattle.std.proofs.lemmas.List.{map_more}
use Rattle.std.specs.List.{flat_map}
use Rattle.resb_draft.specs.Drafts.{tree_at, is_whole}
use Rattle.resb_draft.proofs.Lists.{all_at}
use Rattle.resb_tree.specs.LayingOrder.{own_keys}
use Rattle.resb_write.specs.Inner.Numbered.{NumbersKeys}
use Rattle.resb_write.proofs.Gathering.{flat-push}
use Rattle.resb_write.proofs.drafts.draft_keys.Goals as goal

pub loop-at-init : goal.loop-at-init
loop-at-init c = c.in_ok-keys.ensures

pub own_keys-requires : goal.own_keys-requires
own_keys-requires c =
    all_at (is_whole c.args.draft.now) c.args.order.now c.loop-at.at
    (omega (arith, c.loop-at-test.true, c.loop-at.auto.at-end)) c.requires

pub loop-at-preserved : goal.loop-at-preserved
loop-at-preserved c =
    let d = c.args.draft.now in
    let order = c.args.order.now in
    let i = c.loop-at.at in
    let ts = map (tree_at d) (take i order) in
    let t = tree_at d (get_or order i 0) in
    let h : i < length order = omega (arith, c.loop-at-test.true, c.loop-at.auto.at-end) in
    subst (NumbersKeys c.add_all.new.self)
    (ap (λ l. flat_map own_keys ts ++ l) c.own_keys.ensures
    ∙ sym (flat-push own_keys ts t)
    ∙ ap (flat_map own_keys) (sym (map_more (tree_at d) order i 0 h)))
    (c.in_ok-add_all.ensures (flat_map own_keys ts) c.loop-at.invariant)
