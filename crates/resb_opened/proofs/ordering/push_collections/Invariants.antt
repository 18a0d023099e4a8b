use Rattle.std.proofs.Common.{map, length}
use Rattle.resb_format.specs.Content.{word}
use Rattle.resb_format.specs.Parts.{Parts}
use Rattle.resb_opened.specs.Inner.Pending.{AreCollections, rest_members}
use Rattle.resb_opened.specs.Ordered.{OrderedEach}
use Rattle.resb_opened.proofs.FoundLemmas.{Left}
use Rattle.resb_opened.proofs.ordering.push_collections.Given as goal

abbrev pub invariant-members : goal.invariant-members
invariant-members l = record {
  ordered : (p : Parts) → OrderedEach p (map word l.pending.items)
      → OrderedEach p (rest_members l.rest)
      → OrderedEach p (map word l.fn.pending.items) × OrderedEach p (rest_members l.inside);
  kinds : AreCollections l.fn.pending.items → AreCollections l.pending.items;
  found : (p : Parts)
      → Left p l.fn.pending.items l.pending.items (rest_members l.inside) (rest_members l.rest);
}

abbrev pub decreases-members : goal.decreases-members
decreases-members l = length (rest_members l.rest)
