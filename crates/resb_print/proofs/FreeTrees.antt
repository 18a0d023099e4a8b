-- Trees that hold no quote and no alias.
use Rattle.std.proofs.Common.{◌≡◌, ℕ, false, List}
use Rattle.resb_tree.specs.Tree.{Tree, string, alias, array, table, binary, integer, int_vector}
use Rattle.resb_tree.specs.Tree.{Trees, no_trees, more_trees, Entries, no_entries, entry}
use Rattle.resb_print.specs.Quotes.{has_quote}

-- no quote is among the bytes
abbrev pub NoQuote : List ℕ → Type 0
NoQuote s = has_quote s ≡ false

abbrev mutual
  -- no string and no key of a tree holds a quote, and no resource of it is an alias
  pub IsFree : Tree → Type 0
  IsFree (string s) = NoQuote s
  IsFree (alias s) = ⊥
  IsFree (array ts) = AreFree ts
  IsFree (table es) = FreeIn es
  IsFree (binary bs) = Unit {0}
  IsFree (integer n) = Unit {0}
  IsFree (int_vector ns) = Unit {0}

  -- so for each of some trees
  pub AreFree : Trees → Type 0
  AreFree no_trees = Unit {0}
  AreFree (more_trees t ts) = IsFree t × AreFree ts

  -- so for the keys and the trees of entries
  pub FreeIn : Entries → Type 0
  FreeIn no_entries = Unit {0}
  FreeIn (entry k t es) = NoQuote k × IsFree t × FreeIn es
