use Rattle.std.proofs.Common.{◌≡◌, ◌++◌, take}
use Rattle.resb_pool.specs.Plan.{nows}
use Rattle.resb_pool_maker.specs.Holding.{bytes_each}
use Rattle.resb_pool_maker.proofs.maker.add_texts.Given as goal

abbrev pub invariant-loop-text : goal.invariant-loop-text
invariant-loop-text l =
    nows l.texts.items
    ≡ nows l.initial.texts.items ++ bytes_each (take l.text-index l.strings)
