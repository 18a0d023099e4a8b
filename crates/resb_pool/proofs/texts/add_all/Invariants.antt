use Rattle.std.proofs.Common.{◌≡◌, ◌<◌, ◌^◌, take}
use Rattle.resb_pool.specs.Plan.{nows, texts_size}
use Rattle.resb_pool.specs.Inner.Placing.{AreTexts, AreTurns}
use Rattle.resb_pool.proofs.texts.add_all.Given as goal

abbrev pub invariant-loop-text : goal.invariant-loop-text
invariant-loop-text l = record {
  texts : AreTexts (nows (take l.text-index l.strings)) (nows l.texts.distinct.keys)
      l.texts.measures.items;
  turns : AreTurns (nows (take l.text-index l.strings)) (nows l.texts.distinct.keys)
      l.texts.order.items;
  size : l.size ≡ texts_size (nows (take l.text-index l.strings));
  small : l.size < 2 ^ 28;
}
