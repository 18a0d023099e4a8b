-- A word of the type of numbers stands for its number.
use Rattle.std.proofs.Common.{refl}
use Rattle.resb_format.specs.Content.{content_at}
use Rattle.resb_walk.proofs.leads.glance_at.Goals as goal

pub returns-in-7-default : goal.returns-in-7-default
unfolding content_at
returns-in-7-default c = rw c.in-Word.is (rw c.in-7-default.is-0 refl)
