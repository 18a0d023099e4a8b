-- Rules bring in no key.
use Rattle.std.proofs.Common.{◌≡◌, ℕ, Bool, true, false, ◌||◌, List, refl, ap}
use Rattle.resb_tree.specs.Keys.{same_text, is_key, is_key_of}
use Rattle.resb_tree.specs.Tree.{Tree, string, alias, array, table, binary, integer, int_vector}
use Rattle.resb_tree.specs.Tree.{Entries, no_entries, entry}
use Rattle.resb_filter.specs.Filtered.{Rule, below, verdict, by_verdict, entry_before, filtered}
use Rattle.resb_filter.specs.Filtered.{filtered_entries}
use Rattle.resb_filter.specs.declared.remaining.Verdict.{Verdict}
use Rattle.resb_filter.specs.declared.remaining.Verdict.TheVariants.{Whole, Out, Partly}

or_right : (a b : Bool) → b ≡ true → (a || b) ≡ true
or_right true b h = refl
or_right false b h = h

or_either : (a b c d : Bool) → (a ≡ true → c ≡ true) → (b ≡ true → d ≡ true) → (a || b) ≡ true
    → (c || d) ≡ true
or_either true b c d f g h = ap (λ x. x || d) (f refl)
or_either false b c d f g h = or_right c d (g h)

entry_key : (k l : List ℕ) (t u : Tree) (es left : Entries) (v : Verdict)
    → (is_key k u ≡ true → is_key k t ≡ true)
    → (is_key_of k left ≡ true → is_key_of k es ≡ true)
    → is_key_of k (entry_before l (by_verdict v t u) left) ≡ true
    → is_key_of k (entry l t es) ≡ true
entry_key k l t u es left Whole f g h =
    or_either (same_text k l || is_key k t) (is_key_of k left) (same_text k l || is_key k t)
    (is_key_of k es) (λ e. e) g h
entry_key k l t u es left Partly f g h =
    or_either (same_text k l || is_key k u) (is_key_of k left) (same_text k l || is_key k t)
    (is_key_of k es)
    (or_either (same_text k l) (is_key k u) (same_text k l) (is_key k t) (λ e. e) f) g h
entry_key k l t u es left Out f g h =
    or_right (same_text k l || is_key k t) (is_key_of k es) (g h)

mutual
  -- a key of what rules leave of a tree is a key of the tree
  pub filtered_key : (rs : List Rule) (k : List ℕ) (t : Tree) → is_key k (filtered rs t) ≡ true
      → is_key k t ≡ true
  filtered_key rs k (table es) h = entries_key rs k es h
  filtered_key rs k (string s) h = h
  filtered_key rs k (alias s) h = h
  filtered_key rs k (array ts) h = h
  filtered_key rs k (binary s) h = h
  filtered_key rs k (integer n) h = h
  filtered_key rs k (int_vector s) h = h

  entries_key : (rs : List Rule) (k : List ℕ) (es : Entries)
      → is_key_of k (filtered_entries rs es) ≡ true → is_key_of k es ≡ true
  entries_key rs k no_entries h = h
  entries_key rs k (entry l t es) h =
      entry_key k l t (filtered (below l rs) t) es (filtered_entries rs es) (verdict (below l rs))
      (filtered_key (below l rs) k t) (entries_key rs k es) h
