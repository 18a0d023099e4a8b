use Rattle.std.proofs.Common.{ap, arith, length, length-drop}
use Rattle.resb_walk.specs.Inner.Members.{keyed_members}
use Rattle.resb_c.proofs.there.entry_key.Goals as goal

pub unreachable-requires : goal.unreachable-requires
unreachable-requires c =
    let behind = ap length c.behind.ensures in
    let none = ap length c.in_default.ensures in
    let left = length-drop c.args.number (keyed_members c.args.entries) in
    omega (arith, behind, none, left, c.len.ensures)
