use Rattle.std.proofs.Common.{◌≡◌, ◌++◌, ℕ, List}
use Rattle.std.specs.Map.{keys_of}
use Rattle.resb_grammar.specs.BundleText.{first_places}
use Rattle.resb_grammar.specs.KeyLists.{listed_keys}
use Rattle.resb_compile.proofs.keys.list_table.Given as goal

abbrev pub invariant-loop-key : goal.invariant-loop-key
invariant-loop-key l = (before : List (List ℕ)) → listed_keys l.initial.keys ≡ first_places before
    → (done : List (List ℕ)) × (done ++ l.key-iterator ≡ keys_of l.table.entries)
    × (listed_keys l.keys ≡ first_places (before ++ done))
