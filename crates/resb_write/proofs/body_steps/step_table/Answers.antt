use Rattle.std.proofs.Common.{length, sym, ◌∙◌, subst}
use Rattle.std.proofs.lemmas.Bool.{eqb-true}
use Rattle.std.proofs.lemmas.Result.{on_ok_weaker}
use Rattle.resb_tree.specs.Tree.{table}
use Rattle.resb_write.specs.Inner.Lending.{lent_of}
use Rattle.resb_write.specs.Inner.StackSteps.{LaysNext}
use Rattle.resb_write.specs.Inner.Room.{laid_of}
use Rattle.resb_write.proofs.KeyViews.{no_values}
use Rattle.resb_write.proofs.Stacks.{empty_table_step}
use Rattle.resb_write.proofs.body_steps.step_table.Goals as goal

pub returns-then-is_empty-clause-step : goal.returns-then-is_empty-clause-step
returns-then-is_empty-clause-step c =
    let z = eqb-true (length c.args.positions.now) 0 (sym c.is_empty.ensures
    ∙ c.if-is_empty.true) in
    on_ok_weaker c.replace.result (λ h g e entries many placed. subst (λ es. LaysNext
    (lent_of c.args.ground.now.lent) g
    (laid_of c.args.bodies.now) c.args.words.now.items (table es)
    (laid_of c.args.bodies.now) c.replace.new.words.items) (sym (no_values entries (many ∙ z)))
    (empty_table_step (lent_of c.args.ground.now.lent) g (laid_of c.args.bodies.now)
    c.args.words.now.items c.replace.new.words.items c.word.result c.word.ensures h))
    c.replace.ensures
