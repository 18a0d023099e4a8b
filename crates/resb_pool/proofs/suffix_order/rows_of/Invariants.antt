use Rattle.std.proofs.Common.{◌≡◌, take}
use Rattle.std.specs.List.{All}
use Rattle.resb_pool.specs.Plan.{nows}
use Rattle.resb_pool.specs.Inner.Suffixes.{IsRowOf, row_texts}
use Rattle.resb_pool.proofs.suffix_order.rows_of.Given as goal

abbrev pub invariant-loop-index : goal.invariant-loop-index
invariant-loop-index l = record {
  texts : row_texts (nows l.texts) l.rows.items ≡ nows (take l.index l.texts);
  each : All (IsRowOf (nows l.texts)) l.rows.items;
}
