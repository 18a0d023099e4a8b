-- What is found first, by its path and by its cause, in whichever form.
use Rattle.std.proofs.Common.{◌≡◌, ℕ, List, refl, sym, Option, Some, None}
use Rattle.std.specs.Prelude.{option_map}
use Rattle.std.proofs.lemmas.Option.{none-some}
use Rattle.resb_tree.specs.Tree.{Tree, string, alias, array, table, binary, integer, int_vector}
use Rattle.resb_tree.specs.Tree.{Entries}
use Rattle.resb_print.specs.Paths.{Step, Tests, first_cause}

-- the cause of what is found
abbrev pub cause_in : {C : Type 0} → Option (List Step × C) → Option C
cause_in found = option_map (λ f. f.1) found

-- where no cause is found, nothing is
pub nothing_found : {C : Type 0} (found : Option (List Step × C)) → cause_in found ≡ None
    → found ≡ None
nothing_found None e = refl
nothing_found (Some f) e = absurd (none-some f.1 (sym e))

-- a bundle without a cause has a table for its root
pub root_without_cause : {C : Type 0} (c : Tests C) (name : List ℕ) (t : Tree)
    → first_cause c name t ≡ None → (es : Entries) × (t ≡ table es)
root_without_cause c name (string s) e = absurd (none-some c.of_root (sym e))
root_without_cause c name (alias s) e = absurd (none-some c.of_root (sym e))
root_without_cause c name (array ts) e = absurd (none-some c.of_root (sym e))
root_without_cause c name (table es) e = (es, refl)
root_without_cause c name (binary bs) e = absurd (none-some c.of_root (sym e))
root_without_cause c name (integer n) e = absurd (none-some c.of_root (sym e))
root_without_cause c name (int_vector ns) e = absurd (none-some c.of_root (sym e))
