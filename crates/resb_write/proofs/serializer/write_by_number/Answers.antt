-- The pieces of a draft, by their numbers, stand for the trees of its tree.
use Rattle.std.proofs.Common.{◌≡◌, ◌∙◌, ℕ, List, ap, sym, map, refl, subst, true}
use Rattle.std.specs.List.{flat_map}
use Rattle.std.proofs.lemmas.Result.{err_from_is_err_and, IfOk-weaker, IfErr-weaker}
use Rattle.resb_tree.specs.Borrowing.{all_true}
use Rattle.resb_draft.specs.Drafts.{draft_tree, tree_at, is_whole}
use Rattle.resb_tree.specs.LayingOrder.{laying_order, own_keys}
use Rattle.resb_draft.specs.declared.draft.Draft.{Draft}
use Rattle.resb_write.specs.Inner.Numbered.{NumbersKeys, TakesPieces}
use Rattle.resb_write.specs.Layouts.{RefusesOver, pool_of}
use Rattle.resb_write.proofs.Refusals.{no_memory_by}
use Rattle.resb_write.proofs.serializer.write_by_number.Goals as goal

pub returns-in_err-keys-clause-err : goal.returns-in_err-keys-clause-err
returns-in_err-keys-clause-err c =
    let p = err_from_is_err_and c.from_residual.result c.from_residual.ensures.1 in
    rw p.1 (subst (RefusesOver c.args.wanted.now.layout _ c.args.wanted.now.list.now) (sym p.2)
    (no_memory_by (pool_of c.args.wanted.now.layout) _ c.args.wanted.now.list.now))

takes : (d : Draft) (ns : List ℕ) → map (tree_at d) ns ≡ laying_order (draft_tree d)
    → all_true (map (is_whole d) ns) ≡ true
    → TakesPieces d.pieces.items ns (laying_order (draft_tree d))
takes d ns trees whole = record { draft = d; pieces = refl; trees = trees; whole = whole }

pub write_nodes-requires : goal.write_nodes-requires
write_nodes-requires c =
    let d = c.args.draft in (
      draft_tree d,
      takes d c.args.order.items c.requires.trees c.requires.whole,
      subst (NumbersKeys c.in_ok-keys.keys)
          (ap (λ l. flat_map own_keys (map (tree_at d) l)) c.deref.ensures.value
          ∙ ap (flat_map own_keys) c.requires.trees) c.in_ok-keys.ensures,
    )

pub returns-clause-ok : goal.returns-clause-ok
returns-clause-ok c =
    let d = c.args.draft in
    IfOk-weaker c.write_nodes.result _ _ (λ v h. h (draft_tree d)
    (takes d c.args.order.items c.requires.trees c.requires.whole)
    (subst (NumbersKeys c.in_ok-keys.keys)
    (ap (λ l. flat_map own_keys (map (tree_at d) l)) c.deref.ensures.value
    ∙ ap (flat_map own_keys) c.requires.trees) c.in_ok-keys.ensures)) c.write_nodes.ensures.ok

pub returns-clause-err : goal.returns-clause-err
returns-clause-err c =
    let d = c.args.draft in
    IfErr-weaker c.write_nodes.result _ _ (λ e h. h (draft_tree d)
    (takes d c.args.order.items c.requires.trees c.requires.whole)
    (subst (NumbersKeys c.in_ok-keys.keys)
    (ap (λ l. flat_map own_keys (map (tree_at d) l)) c.deref.ensures.value
    ∙ ap (flat_map own_keys) c.requires.trees) c.in_ok-keys.ensures)) c.write_nodes.ensures.err
