use Rattle.std.proofs.Common.{◌≡◌, take}
use Rattle.resb_format.specs.Views.{view_units}
use Rattle.resb_lent.proofs.records.viewed.Given as goal

abbrev pub invariant-loop-number : goal.invariant-loop-number
invariant-loop-number l = l.units.items ≡ take l.number (view_units l.view)
