use Rattle.std.proofs.Common.{arith, rules}
use Rattle.std.proofs.lemmas.Bool.{eqb-true, eq-eqb}
use Rattle.resb_text.proofs.LexicalLemmas.{byte_found, byte_missing}
use Rattle.resb_text.proofs.scan.find_far.Goals as goal
use Rattle.resb_text.proofs.Lists.{rest_of}

pub returns-in-Some : goal.returns-in-Some
returns-in-Some c = (
  byte_found c.args.b c.args.text.now _ c.args.from c.in-Some.n
      (rest_of c.args.text.now c.as_bytes.result.now c.args.from
      c.as_bytes.ensures.value)
      c.in-Some.ensures.0.high (eqb-true _ _ c.in-Some.ensures.1)
      (λ k lt is. c.in-Some.ensures.0.before k (omega arith) lt (eq-eqb _ _ is)),
  search rules,
)

pub returns-in-None : goal.returns-in-None
returns-in-None c = (
  byte_missing c.args.b c.args.text.now _ c.args.from
      (rest_of c.args.text.now c.as_bytes.result.now c.args.from
      c.as_bytes.ensures.value)
      (λ k lt is. c.in-None.ensures k (omega arith) lt (eq-eqb _ _ is)),
  search rules,
)
