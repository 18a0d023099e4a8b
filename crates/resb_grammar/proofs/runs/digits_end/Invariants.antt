use Rattle.std.proofs.Common.{◌≡◌, ◌-◌, min}
use Rattle.std.specs.Char.{is_ascii_digit}
use Rattle.resb_grammar.specs.ByteRuns.{Each}
use Rattle.resb_grammar.specs.Lexical.{digits_value}
use Rattle.resb_grammar.proofs.runs.digits_end.Given as goal

abbrev pub invariant-loop-at : goal.invariant-loop-at
invariant-loop-at l = record {
  each : Each is_ascii_digit l.bytes l.from l.at;
  value : l.value ≡ min (digits_value 10 l.bytes l.from (l.at - l.from)) 4294967296;
}
