use Rattle.std.proofs.Common.{sym, subst, ap, Ok, []}
use Rattle.std.specs.Io.KnownBytes.{Consumes}
use Rattle.std.proofs.KnownBytes.{Consumes-nil, Consumes-trans, Consumes-all}
use Rattle.resb_program.proofs.streams.read_all.Goals as goal

pub loop-init : goal.loop-init
loop-init g c = subst (Consumes _ _) (sym c.new-bytes.ensures.items) (Consumes-nil _)

pub returns-then-branch-clause-ok : goal.returns-then-branch-clause-ok
returns-then-branch-clause-ok g c =
    let taken = c.in_ok-read_some.ensures.taken in
    let all = Consumes-trans _ _ _ _ _ c.loop.invariant taken.1 in
    Consumes-all _ _ _ [] _ all (c.in_ok-read_some.ensures.end (ap Ok c.if-branch.true)) taken.2

pub loop-preserved : goal.loop-preserved
loop-preserved g c =
    let taken = c.in_ok-read_some.ensures.taken in
    subst (Consumes _ _) (sym taken.2) (Consumes-trans _ _ _ _ _ c.loop.invariant taken.1)
