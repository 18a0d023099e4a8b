use Rattle.std.proofs.Common.{◌≡◌, ◌≤◌, ◌-◌}
use Rattle.std.specs.Char.{is_digit}
use Rattle.resb_grammar.specs.ByteRuns.{Each}
use Rattle.resb_grammar.specs.Lexical.{digits_value}
use Rattle.resb_icu_text.proofs.words.all_digits.Given as goal

abbrev pub invariant-loop-at : goal.invariant-loop-at
invariant-loop-at l = record {
  each : Each (λ b. is_digit b l.radix) l.text l.from l.at;
  value : l.value ≡ digits_value l.radix l.text l.from (l.at - l.from);
  low : l.value ≤ l.limit;
}
