use Rattle.std.proofs.Common.{arith, get_or, sym, subst}
use Rattle.resb_write.specs.Inner.Nodes.{IsNode, no_tree}
use Rattle.resb_write.proofs.NodesLemmas.{nodes_long, node_at}
use Rattle.resb_write.proofs.nodes.VecNodeNodes.node.Goals as goal

pub index-requires : goal.index-requires
index-requires c =
    let r = c.requires in
    omega (arith, r.2, nodes_long c.args.self.now.items r.0 r.1, c.args.self.now.ok.0)

pub returns : goal.returns
returns c = λ ts f h.
    let ns = c.args.self.now.items in
    subst (λ n. IsNode n (get_or ts c.args.at no_tree)) (sym c.index.ensures)
    (node_at ns ts c.args.at c.index.result.now f (omega (arith, h, nodes_long ns ts f)))
