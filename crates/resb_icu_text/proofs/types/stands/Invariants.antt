use Rattle.std.proofs.Common.{◌≡◌, ◌+◌, ◌≤◌, length, drop, ◌↔◌}
use Rattle.resb_grammar.specs.GroupTypes.{Stands}
use Rattle.resb_icu_text.proofs.types.stands.Given as goal

abbrev pub invariant-loop-b : goal.invariant-loop-b
invariant-loop-b l = record {
  here : l.here ≡ l.at + l.b-index;
  fits : l.here ≤ length l.text;
  rest : Stands l.text l.here (drop l.b-index l.bytes) ↔ Stands l.text l.at l.bytes;
}
