use Rattle.std.proofs.Common.{refl, sym, subst, ap, ◌∙◌}
use Rattle.resb_tree.specs.Tree.{string}
use Rattle.resb_layout.specs.Laid.{LaysBy, lays_string, word_of_string}
use Rattle.resb_write.proofs.Stacks.{leaf_step}
use Rattle.resb_write.proofs.body_steps.step_string.Goals as goal

pub returns : goal.returns
returns c = λ lent g s text q at. leaf_step lent g s s c.args.words.now.items c.push.new.self.items
    (string text) c.string_word.result refl
    (subst (LaysBy lent g s (string text) s) (ap (λ p. word_of_string p c.args.offset) q
    ∙ sym c.string_word.ensures) (lays_string at c.requires))
    c.in_ok-push.ensures.items
