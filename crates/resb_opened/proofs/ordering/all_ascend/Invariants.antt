use Rattle.std.proofs.Common.{◌≤◌, map}
use Rattle.resb_format.specs.Content.{word}
use Rattle.resb_format.specs.Parts.{parts_in}
use Rattle.resb_opened.specs.Inner.Pending.{AreCollections, FitsEach}
use Rattle.resb_opened.specs.Ordered.{Ordered, OrderedEach, collections_in, key_price}
use Rattle.resb_opened.proofs.ordering.all_ascend.Given as goal

abbrev pub invariant-collections : goal.invariant-collections
invariant-collections l = record {
  ordered : OrderedEach (parts_in l.file) (map word l.pending.items)
      → Ordered (parts_in l.file) (word l.root);
  kinds : AreCollections l.pending.items;
  found : (o : Ordered (parts_in l.file) (word l.root))
      → collections_in (parts_in l.file) o ≤ l.most → key_price (parts_in l.file) o ≤ l.room
      → FitsEach (parts_in l.file) (map word l.pending.items) l.left l.walk;
}

abbrev pub decreases-collections : goal.decreases-collections
decreases-collections l = l.left
