use Rattle.std.proofs.Common.{refl}
use Rattle.resb_tree.specs.Tree.{alias}
use Rattle.resb_write.specs.Inner.Lending.{lent_of}
use Rattle.resb_write.specs.Inner.Room.{laid_of}
use Rattle.resb_write.proofs.Stacks.{leaf_step}
use Rattle.resb_write.proofs.Anywhere.{path_anywhere}
use Rattle.resb_write.proofs.body_steps.step_path.Goals as goal

pub returns-clause-step : goal.returns-clause-step
returns-clause-step c = λ g e. leaf_step (lent_of c.args.ground.now.lent) g
    (laid_of c.args.bodies.now)
    (laid_of c.lay_path.new.bodies) c.args.words.now.items c.push.new.self.items
    (alias c.args.path.now) c.in_ok-word.word refl
    (path_anywhere (lent_of c.args.ground.now.lent) g c.args.ground.now.base e
    c.in_ok-word.ensures.lays) c.in_ok-push.ensures.items
