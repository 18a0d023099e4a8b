use Rattle.std.proofs.Common.{sym, ◌∙◌}
use Rattle.resb_write.proofs.NodesLemmas.{nodes_long}
use Rattle.resb_write.proofs.nodes.VecNodeNodes.count.Goals as goal

pub returns : goal.returns
returns c = λ ts f.
    nodes_long c.args.self.now.items ts f ∙ sym (c.len.ensures ∙ c.args.self.now.ok.0)
