use Rattle.std.proofs.Common.{refl}
use Rattle.resb_tree.specs.Tree.{int_vector}
use Rattle.resb_write.specs.Inner.Lending.{lent_of}
use Rattle.resb_write.specs.Inner.Room.{laid_of}
use Rattle.resb_write.proofs.Stacks.{leaf_step}
use Rattle.resb_write.proofs.Anywhere.{numbers_anywhere}
use Rattle.resb_write.proofs.body_steps.step_numbers.Goals as goal

pub returns-clause-step : goal.returns-clause-step
returns-clause-step c = λ g e. leaf_step (lent_of c.args.ground.now.lent) g
    (laid_of c.args.bodies.now)
    (laid_of c.lay_numbers.new.bodies) c.args.words.now.items c.push.new.self.items
    (int_vector c.args.numbers.now) c.in_ok-word.word refl
    (numbers_anywhere (lent_of c.args.ground.now.lent) g c.args.ground.now.base e
    c.in_ok-word.ensures.lays) c.in_ok-push.ensures.items
