use Rattle.std.proofs.Common.{◌≡◌, false, take}
use Rattle.std.specs.Prelude.{not}
use Rattle.std.specs.List.{list_any}
use Rattle.resb_icu_grammar.specs.Bytes.{is_key_byte}
use Rattle.resb_icu_grammar.proofs.keys.are_key_bytes.Given as goal

abbrev pub invariant-loop-b : goal.invariant-loop-b
invariant-loop-b l = record {
  none : list_any (λ b. not (is_key_byte b)) (take l.b-index l.text) ≡ false;
}
