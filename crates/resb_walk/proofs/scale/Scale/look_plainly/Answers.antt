use Rattle.std.proofs.Common.{refl, sym, [], ◌≡◌, Some}
use Rattle.resb_format.specs.Content.{content_at, leaf, list, entry_list}
use Rattle.resb_walk.specs.Inner.Members.{leaf_tree, members_of, keyed_members}
use Rattle.resb_walk.specs.Pieces.{array_piece, table_piece}
use Rattle.resb_walk.proofs.Holding.{leaf_holds, list_holds, entries_hold}
use Rattle.resb_walk.proofs.Holding.{table_is_one}
use Rattle.resb_walk.proofs.SumsLemmas.{array_more}
use Rattle.resb_walk.proofs.scale.Scale.look_plainly.Goals as goal

pub returns-in-Leaf : goal.returns-in-Leaf
returns-in-Leaf c p xs zs e h adds =
    let stands : content_at p c.args.word ≡ Some (leaf (leaf_tree c.in-Leaf.leaf)) =
    rw c.in-Leaf.is at e in
    rw (leaf_holds p stands h) (refl, c.with_leaf.ensures zs adds)

pub returns-in-List : goal.returns-in-List
returns-in-List c p xs zs e h adds =
    let stands : content_at p c.args.word ≡ Some (list (members_of c.in-List.members)) =
    rw c.in-List.is at e in
    let i = list_holds p stands h in (
      array_piece,
      i.0,
      i.1,
      refl,
      array_more c.args.sums.now zs adds,
      record { ends = ([], stands); holds = i.2 },
    )

pub returns-in-Table : goal.returns-in-Table
returns-in-Table c p xs zs e h adds =
    let es = keyed_members c.in-Table.entries in
    let stands : content_at p c.args.word ≡ Some (entry_list es) = rw c.in-Table.is at e in
    let i = entries_hold p stands h in (
      table_piece es,
      i.0,
      i.1,
      table_is_one es,
      c.with_table.ensures zs es adds (sym c.len.ensures),
      record { ends = ([], stands); holds = i.2 },
    )
