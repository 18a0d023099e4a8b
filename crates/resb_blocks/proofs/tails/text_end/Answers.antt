use Rattle.std.proofs.Common.{rules}
use Rattle.resb_blocks.proofs.Ends.{no_text_further}
use Rattle.resb_blocks.proofs.tails.text_end.Goals as goal

pub faults-preserved : goal.faults-preserved
faults-preserved c =
    let bs = c.args.bytes.now in
    let before = c.faults.before in
    let v = c.valid_up_to.result in
    let both = c.in-Err.ensures.cases in (
      search rules,
      λ k l. no_text_further bs c.split_at.result.1.now before v k c.split_at.ensures.back
          c.faults.invariant.1 both.0 (rw c.valid_up_to.ensures both.1) l,
    )
