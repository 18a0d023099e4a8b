use Rattle.resb_format.specs.Bytes.{units_of}
use Rattle.resb_walk.proofs.Marked.{marked_here}
use Rattle.resb_walk.proofs.strings.marked.Goals as goal

pub returns : goal.returns
returns c = marked_here _ (units_of c.args.block.now) c.args.unit c.unit_at-first.result
    c.marked_part.result c.ok.result c.unit_at-first.ensures c.marked_part.ensures
    c.ok.ensures.value
