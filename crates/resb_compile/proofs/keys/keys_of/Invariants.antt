use Rattle.std.proofs.Common.{◌≡◌, take}
use Rattle.std.specs.List.{flat_map}
use Rattle.resb_tree.specs.LayingOrder.{own_keys, trees_in}
use Rattle.resb_grammar.specs.BundleText.{first_places}
use Rattle.resb_grammar.specs.KeyLists.{listed_keys}
use Rattle.resb_compile.proofs.keys.keys_of.Given as goal

abbrev pub invariant-loop-at : goal.invariant-loop-at
invariant-loop-at l =
    listed_keys l.keys ≡ first_places (flat_map own_keys (trees_in (take l.at l.order.items)))
