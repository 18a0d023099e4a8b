-- The records of distinct texts in a file that is packed one way, before they are laid.
--     AreRanked way T ms rows     the rows are the records of the texts T, of measures ms, in their
--                             order
--     saving n rows           those that save n units or more
use Rattle.std.specs.Prelude.{ℕ, List, All, Contains, filter, nat_le}
use Rattle.std.specs.List.Sorted.{IsSorted}
use Rattle.resb_pool.specs.Records.{IsRecords}
use Rattle.resb_pool.specs.Inner.LaidRecords.{AreCounted}
use Rattle.resb_pool.specs.Inner.Placing.{AreContainers, AreHidden, IsRecordOf, record_texts}
use Rattle.resb_pool.specs.Inner.Placing.{record_cmp}
use Rattle.resb_pool.specs.declared.measure.Measure.{Measure}
use Rattle.resb_pool.specs.declared.packing.Packing.{Packing}
use Rattle.resb_pool.specs.declared.records.Record.{Record}

pub record AreRanked (way : Packing) (T : List (List ℕ)) (ms : List Measure)
    (rows : List Record) : Type 0 where
  pub containers : List ℕ
  pub containers_are : AreContainers way T containers
  pub hidden : List ℕ
  pub hidden_are : AreHidden way (Contains T) T hidden
  pub sums : List ℕ
  pub lying : AreCounted hidden containers ms sums
  pub records : IsRecords T (record_texts T rows)
  pub each : All (IsRecordOf T sums) rows
  pub ascend : IsSorted (record_cmp way T) rows

abbrev pub saving : ℕ → List Record → List Record
saving least rows = filter (λ r. nat_le least r.saved) rows
