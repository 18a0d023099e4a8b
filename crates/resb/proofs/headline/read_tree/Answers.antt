use Rattle.resb_read.specs.Roots.{alone}
use Rattle.resb.proofs.ReadBack.{tree_or_none}
use Rattle.resb.proofs.headline.read_tree.Goals as goal

pub returns-clause-refused : goal.returns-clause-refused
returns-clause-refused c =
    tree_or_none (alone c.args.file.now) (λ t n d. (d.head, d.root)) c.from_bytes.result
    c.from_bytes.ensures.refused
