use Rattle.std.proofs.Common.{◌≡◌, ◌++◌, List}
use Rattle.std.specs.Prelude.{map, take}
use Rattle.resb_grammar.specs.BundleText.{first_places}
use Rattle.resb_grammar.specs.KeyLists.{listed_keys}
use Rattle.resb_text.specs.Inner.Discovered.{GroupText, text_in_group, left_of, texts}
use Rattle.resb_text.proofs.discovered.list_left.Given as goal

abbrev pub invariant-loop-candidate : goal.invariant-loop-candidate
invariant-loop-candidate l = record {
  keys : (before : List GroupText) → listed_keys l.fn.list ≡ first_places (texts before)
      → listed_keys l.list ≡ first_places (texts (before
      ++ left_of l.is_dropped (map text_in_group (take l.candidate-index l.candidates))));
}
