use Rattle.std.proofs.Common.{◌+◌, arith}
use Rattle.resb_blocks.proofs.Linked.{part_of_run, part_is_linked}
use Rattle.resb_blocks.proofs.laws.ranges_by_links.Goals as goal

pub returns : goal.returns
returns c us from count inside some = (
  part_is_linked us from count inside some,
  λ t. part_of_run us from (from + count) from count t.2 (omega arith) (omega arith) some inside
      t.0 t.1,
)
