use Rattle.std.proofs.Common.{List, take}
use Rattle.resb_tree.specs.Tree.{Tree}
use Rattle.resb_write.specs.Inner.Gathered.{Gathered}
use Rattle.resb_write.proofs.contents.Contents.gather.Given as goal

abbrev pub invariant-loop-at : goal.invariant-loop-at
invariant-loop-at g l = (ts : List Tree) → g.N.Nodes.fit l.order ts
    → Gathered (take l.at ts) l.contents
