use Rattle.std.proofs.Common.{arith}
use Rattle.resb_format.specs.Parts.{parts_in}
use Rattle.resb_walk.specs.Inner.Members.{member_of, leaf_tree}
use Rattle.resb_walk.proofs.Fillings.{table_fills}
use Rattle.resb_walk.proofs.Starts.{leaf_denotes}
use Rattle.resb_walk.proofs.leaves.fill_table.Goals as goal

pub entries-preserved : goal.entries-preserved
entries-preserved g c =
    let i = c.entries.invariant in
    let p = parts_in c.args.file in
    let m = member_of c.in-Some.member in
    let t = leaf_tree c.in-Some-plain_leaf.leaf in record {
      fills = table_fills g.M.Make.lists g.M.Make.tables p c.args.rest c.entries.rest
          c.in-Some.later c.args.made.now c.entries.made c.put.new.table c.args.walk.now
          c.entries.walk c.spend.new.self c.in-Some.position c.in-Some-plain_key_at.key.now m t
          i.fills c.in-Some.ensures c.in-Some-plain_key_at.ensures
          (leaf_denotes p m t c.in-Some-plain_leaf.ensures)
          (λ es h. c.in_ok-put.ensures es t h c.in_ok-leaf.ensures) c.spend.ensures;
      falls = omega (arith, i.falls, c.spend.ensures);
    }
