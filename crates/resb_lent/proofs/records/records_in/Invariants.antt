use Rattle.std.proofs.Common.{◌-◌}
use Rattle.resb_format.specs.Bytes.{units_of}
use Rattle.resb_lent.specs.Inner.Listed.{ListsUpTo}
use Rattle.resb_lent.proofs.records.records_in.Given as goal

abbrev pub invariant-records : goal.invariant-records
invariant-records l = ListsUpTo (units_of l.block) l.records.items l.at

abbrev pub decreases-records : goal.decreases-records
decreases-records l = 0x1000_0000 - l.at
