-- What the laws of ICU's text form say that no other form has; those of each form stand in
-- `resb_grammar`.
use Rattle.std.specs.Prelude.{◌↔◌, ℕ, Bool, List}
use Rattle.resb_tree.specs.Tree.{Tree}
use Rattle.resb_icu_grammar.specs.Bundle.{IcuText}
use Rattle.resb_icu_grammar.specs.Machine.{IsReadToTheEnd}

-- the bundles of this form are what the steps of a reading lead to at the end of a text
abbrev pub IcuMachineReadsTheForm : Type 0
IcuMachineReadsTheForm =
    (text name : List ℕ) (fallback : Bool) (tree : Tree) (keys : List (List ℕ))
    → IcuText text name fallback tree keys ↔ IsReadToTheEnd text name fallback tree keys
