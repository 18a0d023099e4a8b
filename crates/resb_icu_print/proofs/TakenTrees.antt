-- Trees whose keys a text of ICU's form may have.
use Rattle.std.proofs.Common.{◌≡◌, true}
use Rattle.resb_tree.specs.Tree.{Tree, string, alias, array, table, binary, integer, int_vector}
use Rattle.resb_tree.specs.Tree.{Trees, no_trees, more_trees, Entries, no_entries, entry}
use Rattle.resb_icu_print.specs.Causes.{is_icu_key}

abbrev mutual
  -- each key in a tree may be one
  pub IsTaken : Tree → Type 0
  IsTaken (string s) = Unit {0}
  IsTaken (alias s) = Unit {0}
  IsTaken (array ts) = AreTaken ts
  IsTaken (table es) = TakenIn es
  IsTaken (binary bs) = Unit {0}
  IsTaken (integer n) = Unit {0}
  IsTaken (int_vector ns) = Unit {0}

  -- so in each of some trees
  pub AreTaken : Trees → Type 0
  AreTaken no_trees = Unit {0}
  AreTaken (more_trees t ts) = IsTaken t × AreTaken ts

  -- so for the keys and the trees of entries
  pub TakenIn : Entries → Type 0
  TakenIn no_entries = Unit {0}
  TakenIn (entry k t es) = (is_icu_key k ≡ true) × IsTaken t × TakenIn es
