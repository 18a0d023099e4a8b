-- No key so far is told of, and all before the last one are below it.
use Rattle.std.proofs.Common.{◌≡◌, ◌-◌, [], take, get_or}
use Rattle.std.specs.Prelude.{map}
use Rattle.resb_diagnostics.specs.Warnings.{of_keys}
use Rattle.resb_diagnostics.specs.Inner.Looks.{placed_text_of}
use Rattle.resb_diagnostics.specs.declared.text_pieces.StringAt.{StringAt}
use Rattle.resb_diagnostics.proofs.Ascending.{AllBelow}
use Rattle.resb_diagnostics.proofs.groups.ascend.Given as goal

abbrev pub invariant-loop-at : goal.invariant-loop-at
invariant-loop-at l = record {
  none : of_keys [] (map placed_text_of (take l.at l.keys)) ≡ [];
  below : (d : StringAt) → AllBelow (get_or l.keys (l.at - 1) d).content.now
      (map placed_text_of (take (l.at - 1) l.keys));
}
