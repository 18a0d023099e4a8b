use Rattle.std.proofs.Common.{arith, sym, ◌∙◌}
use Rattle.std.proofs.lemmas.Bool.{false≢true}
use Rattle.resb_icu_text.proofs.DigitsLemmas.{none_say, pairs_are, pairs_say}
use Rattle.resb_icu_text.proofs.rows.pairs_in.Goals as goal

pub returns-then-not-are_hex : goal.returns-then-not-are_hex
returns-then-not-are_hex c = none_say c.args.digits.now (λ bytes e.
    false≢true
    (sym c.if-not-are_hex.true ∙ c.are_hex.ensures ∙ (pairs_are c.args.digits.now bytes e).0))

pub returns-then-length-eq0 : goal.returns-then-length-eq0
returns-then-length-eq0 c =
    let p = pairs_say c.args.digits.now _ (sym c.are_hex.ensures ∙ c.if-not-are_hex.false)
    (omega arith) in
    (p.0, p.1, p.2, omega arith)

pub returns-else-length-eq0 : goal.returns-else-length-eq0
returns-else-length-eq0 c = none_say c.args.digits.now (λ bytes e.
    let twice = (pairs_are c.args.digits.now bytes e).1 in
    omega (arith, twice))
