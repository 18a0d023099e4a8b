use Rattle.std.proofs.Common.{refl, subst}
use Rattle.resb_format.specs.Parts.{parts_in}
use Rattle.resb_walk.specs.Inner.Members.{member_of}
use Rattle.resb_walk.specs.Pieces.{HoldsMember}
use Rattle.resb_walk.proofs.Holding.{unit_holds}
use Rattle.resb_walk.proofs.scale.Scale.look.Goals as goal

pub returns-in_ok-len-in-Unit-clause-looked : goal.returns-in_ok-len-in-Unit-clause-looked
returns-in_ok-len-in-Unit-clause-looked c xs zs h adds =
    let p = parts_in c.args.self.now.file in
    let g = subst (λ m. HoldsMember p (member_of m) xs) c.in-Unit.is h in
    let t = unit_holds p c.in-Unit.unit xs g in
    let len = rw c.index_of.ensures at (c.in_ok-len-in-Unit.ensures.len t.0) in
    rw t.2 (refl, c.with_text.ensures.a_string zs t.0 adds (len t.1))
