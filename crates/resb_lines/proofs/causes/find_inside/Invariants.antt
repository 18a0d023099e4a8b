-- What is still to be looked at finds what the entries give, and is held where they are.
use Rattle.std.proofs.Common.{◌≡◌, [], None}
use Rattle.resb_print.specs.Held.{HeldIn}
use Rattle.resb_print.specs.Paths.{found_in, steps_in}
use Rattle.resb_lines.specs.Inner.Looks.{looks_in, looks_found, looks_turns, AreHeldLooks}
use Rattle.resb_lines.proofs.causes.find_inside.Given as goal

abbrev pub invariant-loop-inside : goal.invariant-loop-inside
invariant-loop-inside g l =
    (looks_found g.F.Form.tests (looks_in g.S.Shown.members g.S.Shown.entries l.pending.items)
    (steps_in l.path.items)
    ≡ found_in g.F.Form.tests [] (g.S.Shown.entries l.fn.entries) None)
    × (AreHeldLooks (looks_in g.S.Shown.members g.S.Shown.entries l.pending.items)
    → HeldIn (g.S.Shown.entries l.fn.entries))

abbrev pub decreases-loop-inside : goal.decreases-loop-inside
decreases-loop-inside g l =
    looks_turns (looks_in g.S.Shown.members g.S.Shown.entries l.pending.items)
