use Rattle.std.proofs.Common.{◌≡◌, true, take}
use Rattle.std.specs.List.{list_all}
use Rattle.resb_grammar.specs.Group.{is_hex}
use Rattle.resb_text.proofs.content.are_digits.Given as goal

abbrev pub invariant-loop-b : goal.invariant-loop-b
invariant-loop-b l = record { all : list_all is_hex (take l.b-index l.bytes) ≡ true }
