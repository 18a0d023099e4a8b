use Rattle.std.proofs.Common.{◌≡◌, map, take}
use Rattle.resb_grammar.specs.BundleText.{first_places}
use Rattle.resb_grammar.specs.KeyLists.{listed_keys}
use Rattle.resb_icu_text.proofs.reader.each_once.Given as goal

abbrev pub invariant-loop-key : goal.invariant-loop-key
invariant-loop-key l =
    listed_keys l.list ≡ first_places (map (λ k. k.now) (take l.key-index l.keys))
