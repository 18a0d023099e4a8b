use Rattle.std.proofs.Common.{◌<◌, ◌∙◌, sym, length, arith}
use Rattle.resb_walk.proofs.Keys.{plain_key, plain_valid}
use Rattle.resb_walk.proofs.Plain.{plain_more}
use Rattle.resb_walk.proofs.standing.plain_key.Goals as goal

pub bytes-preserved : goal.bytes-preserved
bytes-preserved c =
    plain_more c.in_ok-tail.tail.now c.bytes.count 128 c.byte_at-found.result
    c.byte_at-found.ensures (omega arith) (omega arith) c.bytes.invariant

pub from_utf8_unchecked-key-requires : goal.from_utf8_unchecked-key-requires
from_utf8_unchecked-key-requires c =
    rw c.in_ok-front.ensures.parts.0
    (plain_valid c.in_ok-tail.tail.now c.bytes.count c.bytes.invariant)

pub returns-then-found-eq0 : goal.returns-then-found-eq0
returns-then-found-eq0 c =
    let tail = c.in_ok-tail.tail.now in
    let inside : c.bytes.count < length tail = omega (arith, c.min-most.ensures) in
    let same = c.from_utf8_unchecked-key.ensures ∙ c.in_ok-front.ensures.parts.0 in
    rw same (plain_key c.args.keys.now tail c.args.at c.bytes.count c.in_ok-tail.ensures.parts.1
    inside (sym c.byte_at-found.ensures ∙ c.if-found-eq0.true) c.bytes.invariant)
