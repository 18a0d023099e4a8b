use Rattle.std.proofs.Common.{◌-◌, ◌<◌, ℕ, List}
use Rattle.resb_icu_grammar.specs.Pieces.{Joined}
use Rattle.resb_icu_text.proofs.DigitsLemmas.{DigitsLeft}
use Rattle.resb_icu_text.proofs.digits.say_digits.Given as goal

abbrev pub invariant-digits : goal.invariant-digits
invariant-digits l = record {
  left : (said : List ℕ) → Joined l.text l.from l.end said → DigitsLeft l.text l.at l.end said;
  fits : l.at < l.end;
}

abbrev pub decreases-digits : goal.decreases-digits
decreases-digits l = l.end - l.at
