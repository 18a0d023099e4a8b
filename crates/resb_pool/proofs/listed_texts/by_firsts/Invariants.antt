use Rattle.std.proofs.Common.{◌≡◌, ◌<◌, ◌^◌, take}
use Rattle.resb_pool.specs.Plan.{nows, texts_size}
use Rattle.resb_pool.specs.Inner.Listing.{IsListing}
use Rattle.resb_pool.proofs.listed_texts.by_firsts.Given as goal

abbrev pub invariant-loop-number : goal.invariant-loop-number
invariant-loop-number l = record {
  listing : IsListing l.initial.list.strings.items l.initial.list.order.items l.number l.list;
  size : l.size ≡ texts_size (nows (take l.number l.initial.list.strings.items));
  small : l.size < 2 ^ 28;
}
