-- Each resource of a tree in laying order finds its members as the last of those before it.
use Rattle.std.proofs.Common.{List, [], ◌∷◌, ◌++◌, refl, sym, subst, append_assoc, append-nil}
use Rattle.resb_tree.specs.Tree.{Tree, string, alias, array, table, binary, integer, int_vector}
use Rattle.resb_tree.specs.Tree.{Trees, no_trees, more_trees, Entries, no_entries, entry}
use Rattle.resb_tree.specs.LayingOrder.{array_members, values_of, laying_order, laying_each}
use Rattle.resb_tree.specs.LayingOrder.{laying_values}
use Rattle.resb_write.specs.Inner.Counted.{Pending}

mutual
  pending_tree : (t : Tree) (st rest : List Tree) → Pending (st ++ t ∷ []) rest
      → Pending st (laying_order t ++ rest)
  pending_tree (string x) st rest h = (st, sym (append-nil st), h)
  pending_tree (alias x) st rest h = (st, sym (append-nil st), h)
  pending_tree (binary x) st rest h = (st, sym (append-nil st), h)
  pending_tree (integer x) st rest h = (st, sym (append-nil st), h)
  pending_tree (int_vector x) st rest h = (st, sym (append-nil st), h)
  pending_tree (array ts) st rest h =
      subst (Pending st) (sym (append_assoc (laying_each ts) (array ts ∷ []) rest))
      (pending_each ts st (array ts ∷ rest) (st, refl, h))
  pending_tree (table es) st rest h =
      subst (Pending st) (sym (append_assoc (laying_values es) (table es ∷ []) rest))
      (pending_values es st (table es ∷ rest) (st, refl, h))

  pending_each : (ts : Trees) (st rest : List Tree) → Pending (st ++ array_members ts) rest
      → Pending st (laying_each ts ++ rest)
  pending_each no_trees st rest h = subst (λ l. Pending l rest) (append-nil st) h
  pending_each (more_trees t ts) st rest h =
      subst (Pending st) (sym (append_assoc (laying_order t) (laying_each ts) rest))
      (pending_tree t st (laying_each ts ++ rest) (pending_each ts (st ++ t ∷ []) rest
      (subst (λ l. Pending l rest) (sym (append_assoc st (t ∷ []) (array_members ts))) h)))

  pending_values : (es : Entries) (st rest : List Tree) → Pending (st ++ values_of es) rest
      → Pending st (laying_values es ++ rest)
  pending_values no_entries st rest h = subst (λ l. Pending l rest) (append-nil st) h
  pending_values (entry k t es) st rest h =
      subst (Pending st) (sym (append_assoc (laying_order t) (laying_values es) rest))
      (pending_tree t st (laying_values es ++ rest) (pending_values es (st ++ t ∷ []) rest
      (subst (λ l. Pending l rest) (sym (append_assoc st (t ∷ []) (values_of es))) h)))

-- at first nothing is passed
pub nothing_passed : (t : Tree) → Pending [] (laying_order t)
nothing_passed t = subst (Pending []) (append-nil (laying_order t)) (pending_tree t [] [] tt)
