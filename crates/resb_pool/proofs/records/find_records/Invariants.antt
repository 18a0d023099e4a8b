use Rattle.std.proofs.Common.{take}
use Rattle.std.specs.List.{All}
use Rattle.resb_pool.specs.Plan.{nows}
use Rattle.resb_pool.specs.Inner.Placing.{AreRecordsAmong, IsRecordOf, record_texts}
use Rattle.resb_pool.proofs.records.find_records.Given as goal

abbrev pub invariant-loop-index : goal.invariant-loop-index
invariant-loop-index l = record {
  records : AreRecordsAmong (nows l.texts) (take l.index (nows l.texts))
      (record_texts (nows l.texts) l.records.items);
  each : All (IsRecordOf (nows l.texts) l.sums) l.records.items;
}
