use Rattle.resb_format.specs.Bytes.{units_of}
use Rattle.resb_blocks.proofs.WideLemmas.{part_is_wide}
use Rattle.resb_blocks.proofs.widths.Widths.utf8_len.Goals as goal

pub overflow_sub-result : goal.overflow_sub-result
overflow_sub-result c =
    (part_is_wide (units_of c.args.self.now.block.now) c.args.from c.args.count
    c.width_before.result c.width_before-2.result c.width_before.ensures
    c.width_before-2.ensures).0

pub returns : goal.returns
returns c =
    (part_is_wide (units_of c.args.self.now.block.now) c.args.from c.args.count
    c.width_before.result c.width_before-2.result c.width_before.ensures
    c.width_before-2.ensures).1
