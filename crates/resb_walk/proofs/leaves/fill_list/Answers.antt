use Rattle.std.proofs.Common.{arith}
use Rattle.resb_format.specs.Parts.{parts_in}
use Rattle.resb_walk.specs.Inner.Members.{member_of, leaf_tree}
use Rattle.resb_walk.proofs.Fillings.{list_fills}
use Rattle.resb_walk.proofs.Starts.{leaf_denotes}
use Rattle.resb_walk.proofs.leaves.fill_list.Goals as goal

pub members-preserved : goal.members-preserved
members-preserved g c =
    let i = c.members.invariant in
    let p = parts_in c.args.file in
    let m = member_of c.in-Some.member in
    let t = leaf_tree c.in-Some-plain_leaf.leaf in record {
      fills = list_fills g.M.Make.lists g.M.Make.tables p c.args.rest c.members.rest
          c.in-Some.later c.args.made.now c.members.made c.add.new.list c.args.walk.now
          c.members.walk c.spend.new.self m t i.fills c.in-Some.ensures
          (leaf_denotes p m t c.in-Some-plain_leaf.ensures)
          (λ ts h. c.in_ok-add.ensures ts t h c.in_ok-leaf.ensures) c.spend.ensures;
      falls = omega (arith, i.falls, c.spend.ensures);
    }
