-- The pieces of a draft fit the resources of its tree, and its keys are those of its tables.
use Rattle.std.proofs.Common.{ap, sym, subst, ◌∙◌}
use Rattle.std.proofs.lemmas.Result.{err_from_is_err_and, IfOk-weaker, IfErr-weaker}
use Rattle.resb_pool.specs.Plan.{nows}
use Rattle.resb_draft.specs.Drafts.{draft_tree}
use Rattle.resb_write.specs.Layouts.{RefusesOver, pool_of}
use Rattle.resb_write.specs.Inner.Numbered.{NumbersKeys}
use Rattle.resb_write.proofs.Refusals.{no_memory_by}
use Rattle.resb_write.proofs.serializer.write_standing.Goals as goal

pub returns-in_err-numbered-clause-err : goal.returns-in_err-numbered-clause-err
returns-in_err-numbered-clause-err c =
    let p = err_from_is_err_and c.from_residual.result c.from_residual.ensures.1 in
    rw p.1 (subst (RefusesOver c.args.wanted.now.layout _ c.args.wanted.now.list.now) (sym p.2)
    (no_memory_by (pool_of c.args.wanted.now.layout) _ c.args.wanted.now.list.now))

pub write_nodes-requires : goal.write_nodes-requires
write_nodes-requires c = (
  draft_tree c.args.draft,
  c.requires.pieces,
  subst (NumbersKeys c.in_ok-numbered.numbered)
      (ap nows c.deref.ensures.value ∙ c.requires.keys) c.in_ok-numbered.ensures,
)

pub returns-clause-ok : goal.returns-clause-ok
returns-clause-ok c =
    IfOk-weaker c.write_nodes.result _ _
    (λ v h. h (draft_tree c.args.draft) c.requires.pieces
    (subst (NumbersKeys c.in_ok-numbered.numbered)
    (ap nows c.deref.ensures.value ∙ c.requires.keys) c.in_ok-numbered.ensures))
    c.write_nodes.ensures.ok

pub returns-clause-err : goal.returns-clause-err
returns-clause-err c =
    IfErr-weaker c.write_nodes.result _ _
    (λ e h. h (draft_tree c.args.draft) c.requires.pieces
    (subst (NumbersKeys c.in_ok-numbered.numbered)
    (ap nows c.deref.ensures.value ∙ c.requires.keys) c.in_ok-numbered.ensures))
    c.write_nodes.ensures.err
