-- The byte is searched for in the part of the text.
use Rattle.std.proofs.Common.{◌≡◌, ◌+◌, ◌-◌, arith, subst}
use Rattle.resb_diagnostics.specs.Inner.Tokens.{NoByte}
use Rattle.resb_diagnostics.proofs.FirstBytes.{first_in_part, not_in_part, length_part}
use Rattle.resb_diagnostics.proofs.runs.first_byte.Goals as goal

pub returns-in-Some : goal.returns-in-Some
returns-in-Some c =
    let size = length_part c.args.text.now c.args.from c.args.to c.requires.1 in
    first_in_part c.args.byte c.args.text.now c.args.from c.args.to c.in-Some.n
    (omega (arith, size, c.in-Some.ensures.0.high))
    c.in-Some.ensures.1 (λ k lt is. c.in-Some.ensures.0.before k (omega arith) lt is)

pub returns-in-None : goal.returns-in-None
returns-in-None c =
    let text = c.args.text.now in
    let from = c.args.from in
    let to = c.args.to in
    let size = length_part text from to c.requires.1 in
    let all : from + (to - from) ≡ to = omega (arith, c.requires.0) in
    subst (NoByte c.args.byte text from) all
    (not_in_part c.args.byte text from to (to - from) (omega arith)
    (λ k lt is. c.in-None.ensures k (omega arith) (omega (arith, size)) is))
