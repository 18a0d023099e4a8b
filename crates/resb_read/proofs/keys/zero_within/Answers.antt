use Rattle.std.proofs.Common.{◌≤◌, ◌/◌, subst, arith}
use Rattle.resb_read.proofs.PlainLists.{whole_fits, front_tells, front_lacks}
use Rattle.resb_read.proofs.keys.zero_within.Goals as goal

pub returns-then-bytes-room : goal.returns-then-bytes-room
returns-then-bytes-room c =
    (c.zero_in.ensures, whole_fits c.args.bytes.now c.args.room c.if-bytes-room.true)

pub returns-then-place-room : goal.returns-then-place-room
returns-then-place-room c =
    let is = front_tells c.args.bytes.now c.front.result.now c.args.room c.zero_in-place.result
    c.front.ensures.is c.zero_in-place.ensures c.if-place-room.true in
    (is, subst (λ n. n / 16 ≤ c.args.room) is c.if-place-room.true)

pub returns-else-place-room : goal.returns-else-place-room
returns-else-place-room c =
    front_lacks c.args.bytes.now c.front.result.now c.args.room c.zero_in-place.result
    c.front.ensures.is c.zero_in-place.ensures (omega (arith, c.if-place-room.false))
