use Rattle.std.proofs.Common.{◌≡◌, List, length, take, drop}
use Rattle.resb_tree.specs.Tree.{Tree}
use Rattle.resb_layout.specs.Laid.{Given}
use Rattle.resb_write.specs.Inner.Lending.{lent_of}
use Rattle.resb_write.specs.Inner.StackSteps.{LaysRow}
use Rattle.resb_write.specs.Inner.Room.{laid_of, GivesInTurn}
use Rattle.resb_write.specs.Inner.Seen.{Anywhere, CanLay}
use Rattle.resb_write.proofs.tree_bodies.steps.Given as goal

abbrev pub invariant-loop-at : goal.invariant-loop-at
invariant-loop-at g l = record {
  left : (given : Given) (ts : List Tree) → g.N.Nodes.fit l.order ts
      → GivesInTurn given l.sites.positions.now l.sites.offsets.now ts
      → GivesInTurn given l.coming.positions.now l.coming.offsets.now (drop l.at ts);
  done : Anywhere l.ground.base (λ given. (ts : List Tree)
      → given.packing ≡ l.ground.packing → g.N.Nodes.fit l.order ts
      → GivesInTurn given l.sites.positions.now l.sites.offsets.now ts
      → LaysRow (lent_of l.ground.lent) given (laid_of l.fn.bodies) l.fn.words.items (take l.at ts)
      (laid_of l.bodies) l.words.items);
  can : (given : Given) (ts : List Tree) → g.N.Nodes.fit l.order ts
      → GivesInTurn given l.sites.positions.now l.sites.offsets.now ts
      → CanLay l.ground.base l.fn.bodies (length l.fn.words.items) ts
      → CanLay l.ground.base l.bodies (length l.words.items) (drop l.at ts);
}
