-- A text has the name that a reading of it gives.
use Rattle.std.proofs.Common.{◌≡◌, ℕ, List, sym}
use Rattle.std.specs.Prelude.{Bool}
use Rattle.resb_tree.specs.Tree.{Tree}
use Rattle.resb_grammar.specs.BundleText.{BundleText}
use Rattle.resb_program.specs.Names.{IsNameOf}

-- a text that is a bundle of a name, of which this is a copy
pub named : (text name copy : List ℕ) (fallback : Bool) (tree : Tree) (keys : List (List ℕ))
    → BundleText text name fallback tree keys → copy ≡ name → IsNameOf text copy
named text name copy fallback tree keys b e =
    (record { name = name; fallback = fallback; tree = tree; keys = keys; is = b }, sym e)
