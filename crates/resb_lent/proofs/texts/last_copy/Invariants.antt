use Rattle.std.proofs.Common.{◌≡◌, ◌-◌, ◌<◌, length}
use Rattle.resb_lent.specs.Inner.Tops.{numbered_text}
use Rattle.resb_lent.proofs.texts.last_copy.Given as goal

abbrev pub invariant-copies : goal.invariant-copies
invariant-copies l = record {
  within : l.last < length l.records;
  same : numbered_text l.records l.last ≡ numbered_text l.records l.number;
}

abbrev pub decreases-copies : goal.decreases-copies
decreases-copies l = length l.records - l.last
