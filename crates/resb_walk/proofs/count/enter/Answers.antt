use Rattle.std.proofs.Common.{inl, refl}
use Rattle.resb_format.specs.Parts.{parts_in}
use Rattle.resb_walk.specs.Inner.Members.{member_of}
use Rattle.resb_walk.proofs.Paths.{awaits_puts}
use Rattle.resb_walk.proofs.count.enter.Goals as goal

pub returns-in_default-clause-enters : goal.returns-in_default-clause-enters
returns-in_default-clause-enters c = λ n h.
    let e = rw c.in_default.is at c.in_ok-its.ensures.enters in
    let i = c.args.inner in (
      e.2,
      inl (
        refl,
        refl,
        awaits_puts (parts_in c.args.checker.now.file) i.rest i.word n 1 (member_of c.args.member)
            e.0 h e.1,
      ),
    )
