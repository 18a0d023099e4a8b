-- Tests of what a resource borrows, level by level.
use Rattle.std.proofs.Common.{◌≡◌, ℕ, Bool, true, List, [], ◌∷◌, ◌++◌, BTreeMap, Vec, Global}
use Rattle.std.proofs.Common.{Ordering, Less, Equal, Greater, nat_cmp, refl, ap, ◌∙◌, rules}
use Rattle.std.specs.Prelude.{map}
use Rattle.std.proofs.lemmas.Bool.{and_from, and_parts}
use Rattle.std.specs.BTreeMap.{insert_entry, IsFromIterResult}
use Rattle.std.specs.Cmp.Lexicographic.{slice_cmp}
use Rattle.std.specs.Ordering.{match_ordering}
use Rattle.std.specs.declared.borrow.CowStr.{CowStr}
use Rattle.std.specs.declared.borrow.CowSlice.{CowSlice}
use Rattle.resb_tree.specs.Borrowing.{all_true, each_leaf, each_entry}
use Rattle.resb_tree.specs.declared.resource.Resource.{Resource, String, Alias, Array, Table}
use Rattle.resb_tree.specs.declared.resource.Resource.{Binary, Integer, IntVector, the_lemmas}
use Rattle.resb_tree.proofs.AtOnce.{inserted, made}

-- all of one more
pub all_snoc : (bs : List Bool) (b : Bool) → all_true bs ≡ true → b ≡ true
    → all_true (bs ++ b ∷ []) ≡ true
all_snoc [] b h k = and_from b true k refl
all_snoc (c ∷ bs) b h k = let all = and_parts c _ h in and_from c _ all.0 (all_snoc bs b all.1 k)

module _ (on_text : CowStr Global → Bool) (on_bytes : CowSlice ℕ Global → Bool) where
  -- a String's test is that of its text
  pub string_passes : (s : CowStr Global) → each_leaf on_text on_bytes (String s) ≡ on_text s
  string_passes s = search (rules, the_lemmas)

  -- so is an Alias's that of its path
  pub alias_passes : (s : CowStr Global) → each_leaf on_text on_bytes (Alias s) ≡ on_text s
  alias_passes s = search (rules, the_lemmas)

  -- a Binary's is that of its bytes
  pub binary_passes : (b : CowSlice ℕ Global) → each_leaf on_text on_bytes (Binary b) ≡ on_bytes b
  binary_passes b = search (rules, the_lemmas)

  -- an Integer passes
  pub integer_passes : (n : ℕ) → each_leaf on_text on_bytes (Integer n) ≡ true
  integer_passes n = search (rules, the_lemmas)

  -- so does a vector
  pub vector_passes : (v : Vec ℕ Global) → each_leaf on_text on_bytes (IntVector v) ≡ true
  vector_passes v = search (rules, the_lemmas)

  -- an array passes where its members do
  pub array_passes : (v : Vec Resource Global) → each_leaf on_text on_bytes (Array v)
      ≡ all_true (map (each_leaf on_text on_bytes) v.items)
  array_passes v = search (rules, the_lemmas)

  -- and a table where its entries do
  pub table_passes : (m : BTreeMap (List ℕ) Resource)
      → each_leaf on_text on_bytes (Table m) ≡ each_entry on_text on_bytes m.entries
  table_passes m = search (rules, the_lemmas)

  at_ordering : (o : Ordering) (a b c : List (List ℕ × Resource))
      → each_entry on_text on_bytes a ≡ true → each_entry on_text on_bytes b ≡ true
      → each_entry on_text on_bytes c ≡ true
      → each_entry on_text on_bytes (match_ordering o a b c) ≡ true
  at_ordering Less a b c h k l = h
  at_ordering Equal a b c h k l = k
  at_ordering Greater a b c h k l = l

  -- an entry more in a table
  pub insert_passes : (es : List (List ℕ × Resource)) (k : List ℕ) (v : Resource)
      → each_leaf on_text on_bytes v ≡ true → each_entry on_text on_bytes es ≡ true
      → each_entry on_text on_bytes (insert_entry (slice_cmp nat_cmp) es k v) ≡ true
  insert_passes [] k v h all = and_from (each_leaf on_text on_bytes v) true h refl
  insert_passes (e ∷ es) k v h all =
      at_ordering (slice_cmp nat_cmp k e.0) _ _ _ (and_from _ _ h all)
      (and_from _ _ h (and_parts _ _ all).1)
      (and_from _ _ (and_parts _ _ all).0 (insert_passes es k v h (and_parts _ _ all).1))

  inserted_passes : (es ps : List (List ℕ × Resource)) → each_entry on_text on_bytes es ≡ true
      → each_entry on_text on_bytes ps ≡ true
      → each_entry on_text on_bytes (inserted es ps) ≡ true
  inserted_passes es [] h k = h
  inserted_passes es (p ∷ ps) h k =
      inserted_passes (insert_entry (slice_cmp nat_cmp) es p.0 p.1) ps
      (insert_passes es p.0 p.1 (and_parts _ _ k).0 h) (and_parts _ _ k).1

  -- a table that is made at once of entries that pass
  pub made_passes : (ps : List (List ℕ × Resource)) (m : BTreeMap (List ℕ) Resource)
      → IsFromIterResult (slice_cmp nat_cmp) ps m → each_entry on_text on_bytes ps ≡ true
      → each_entry on_text on_bytes m.entries ≡ true
  made_passes ps m h k =
      ap (each_entry on_text on_bytes) (made ps m h) ∙ inserted_passes [] ps refl k
