use Rattle.std.proofs.Common.{refl, sym, subst}
use Rattle.resb_tree.specs.Tree.{integer}
use Rattle.resb_layout.specs.Laid.{LaysBy, lays_integer}
use Rattle.resb_write.proofs.Stacks.{leaf_step}
use Rattle.resb_write.proofs.body_steps.step_integer.Goals as goal

pub returns : goal.returns
returns c = λ lent g s. leaf_step lent g s s c.args.words.now.items c.push.new.self.items
    (integer c.args.number) c.word.result refl
    (subst (LaysBy lent g s (integer c.args.number) s) (sym c.word.ensures)
    (lays_integer c.requires))
    c.in_ok-push.ensures.items
