-- The test of equality decides whether two trees are equal.
use Rattle.std.specs.Prelude.{true, false}
use Rattle.std.specs.Bool.{Decides}
use Rattle.std.specs.Cmp.{IsPartialEquivalence, both_ways, first_so, second_so, nat_eq_equiv}
use Rattle.std.specs.Cmp.Lexicographic.{bytes_decides, nat_list_eq_equiv}
use Rattle.std.proofs.Common.{◌≡◌, refl, sym, ap, ◌∙◌, true≢false, eqb-true}
use Rattle.std.proofs.lemmas.Bool.{and_from}
use Rattle.resb_tree.specs.Tree.{Tree, string, alias, array, table, binary, integer}
use Rattle.resb_tree.specs.Tree.{int_vector, Trees, no_trees, more_trees, Entries}
use Rattle.resb_tree.specs.Tree.{no_entries, entry}
use Rattle.resb_tree.specs.Equality.{tree_eq, trees_eq, entries_eq}

no : {A : Type 0} → false ≡ true → A
no e = absurd (true≢false (sym e))

-- the test decides whether two trees are equal
mutual
  pub tree_eq_true : (a b : Tree) → tree_eq a b ≡ true → a ≡ b
  tree_eq_true (string s) (string t) e = ap string ((bytes_decides s t).0 e)
  tree_eq_true (alias s) (alias t) e = ap alias ((bytes_decides s t).0 e)
  tree_eq_true (string s) _ e = no e
  tree_eq_true (alias s) _ e = no e
  tree_eq_true (array ts) (array us) e = ap array (trees_eq_true ts us e)
  tree_eq_true (array ts) _ e = no e
  tree_eq_true (table es) (table fs) e = ap table (entries_eq_true es fs e)
  tree_eq_true (table es) _ e = no e
  tree_eq_true (binary s) (binary t) e = ap binary ((bytes_decides s t).0 e)
  tree_eq_true (binary s) _ e = no e
  tree_eq_true (integer n) (integer m) e = ap integer (eqb-true n m e)
  tree_eq_true (integer n) _ e = no e
  tree_eq_true (int_vector s) (int_vector t) e = ap int_vector ((bytes_decides s t).0 e)
  tree_eq_true (int_vector s) _ e = no e

  trees_eq_true : (ts us : Trees) → trees_eq ts us ≡ true → ts ≡ us
  trees_eq_true no_trees no_trees e = refl
  trees_eq_true no_trees (more_trees u us) e = no e
  trees_eq_true (more_trees t ts) no_trees e = no e
  trees_eq_true (more_trees t ts) (more_trees u us) e =
      λ i. more_trees (tree_eq_true t u (first_so _ _ e) i)
      (trees_eq_true ts us (second_so _ _ e) i)

  entries_eq_true : (es fs : Entries) → entries_eq es fs ≡ true → es ≡ fs
  entries_eq_true no_entries no_entries e = refl
  entries_eq_true no_entries (entry l u fs) e = no e
  entries_eq_true (entry k t es) no_entries e = no e
  entries_eq_true (entry k t es) (entry l u fs) e =
      λ i. entry ((bytes_decides k l).0 (first_so _ _ (first_so _ _ e)) i)
      (tree_eq_true t u (second_so _ _ (first_so _ _ e)) i)
      (entries_eq_true es fs (second_so _ _ e) i)

mutual
  pub tree_eq_refl : (a : Tree) → tree_eq a a ≡ true
  tree_eq_refl (string s) = nat_list_eq_equiv.refl s
  tree_eq_refl (alias s) = nat_list_eq_equiv.refl s
  tree_eq_refl (array ts) = trees_eq_refl ts
  tree_eq_refl (table es) = entries_eq_refl es
  tree_eq_refl (binary s) = nat_list_eq_equiv.refl s
  tree_eq_refl (integer n) = nat_eq_equiv.refl n
  tree_eq_refl (int_vector s) = nat_list_eq_equiv.refl s

  trees_eq_refl : (ts : Trees) → trees_eq ts ts ≡ true
  trees_eq_refl no_trees = refl
  trees_eq_refl (more_trees t ts) = and_from _ _ (tree_eq_refl t) (trees_eq_refl ts)

  entries_eq_refl : (es : Entries) → entries_eq es es ≡ true
  entries_eq_refl no_entries = refl
  entries_eq_refl (entry k t es) =
      and_from _ _ (and_from _ _ (nat_list_eq_equiv.refl k) (tree_eq_refl t)) (entries_eq_refl es)

pub tree_eq_decides : (a b : Tree) → Decides (tree_eq a b) (a ≡ b)
tree_eq_decides a b = (tree_eq_true a b, λ e. ap (λ c. tree_eq a c) (sym e) ∙ tree_eq_refl a)

pub tree_eq_per : IsPartialEquivalence tree_eq
tree_eq_per = record {
  symm =
      λ a b. both_ways _ _ (λ e. (tree_eq_decides b a).1 (sym ((tree_eq_decides a b).0 e)))
      (λ e. (tree_eq_decides a b).1 (sym ((tree_eq_decides b a).0 e)));
  trans =
      λ a b c e f. (tree_eq_decides a c).1 ((tree_eq_decides a b).0 e ∙ (tree_eq_decides b c).0 f);
}
