-- The plain form has no aliases: the tree of a bundle's text has none.
use Rattle.std.proofs.Common.{◌≡◌, ℕ, List, [], ◌∷◌, ◌++◌, Bool, true, false, Ordering, Less, Equal}
use Rattle.std.proofs.Common.{Greater, refl, sym, ◌∙◌, ap}
use Rattle.std.specs.Prelude.{◌||◌}
use Rattle.std.specs.Cmp.Lexicographic.{slice_cmp}
use Rattle.std.specs.Ordering.{nat_cmp, match_ordering}
use Rattle.std.proofs.lemmas.Bool.{false≢true}
use Rattle.resb_tree.specs.Tree.{Tree, Entries, no_entries, entry, trees_of, put, put_all}
use Rattle.resb_tree.specs.Aliases.{has_alias, has_alias_in, has_alias_of}
use Rattle.resb_grammar.specs.Items.{Item, plain, term_tree, term_text, pairs_in, item_trees}
use Rattle.resb_grammar.specs.Items.{Shape, a_string, a_table, an_array, shape_of, tree_in}
use Rattle.resb_grammar.specs.Group.{Items, nothing, string_item, group_item, comma, Group, untyped}
use Rattle.resb_grammar.specs.Group.{typed_table, typed_array, typed_leaf, LeafContent}
use Rattle.resb_grammar.specs.Group.{string_content, binary_content, integer_content}
use Rattle.resb_grammar.specs.Group.{vector_content}
use Rattle.resb_grammar.specs.GroupTypes.{Kind}
use Rattle.resb_grammar.specs.BundleText.{BundleText}

neither : (a b : Bool) → a ≡ false → b ≡ false → (a || b) ≡ false
neither true b e f = e
neither false b e f = f

left_none : (a b : Bool) → (a || b) ≡ false → a ≡ false
left_none true b e = e
left_none false b e = refl

right_none : (a b : Bool) → (a || b) ≡ false → b ≡ false
right_none true b e = absurd (false≢true (sym e))
right_none false b e = e

-- entries without an alias, with a tree without one put in, have none
in_order : (o : Ordering) (a b c : Entries) → has_alias_of a ≡ false → has_alias_of b ≡ false
    → has_alias_of c ≡ false → has_alias_of (match_ordering o a b c) ≡ false
in_order Less a b c f g h = f
in_order Equal a b c f g h = g
in_order Greater a b c f g h = h

put_none : (k : List ℕ) (t : Tree) (es : Entries) → has_alias t ≡ false → has_alias_of es ≡ false
    → has_alias_of (put k t es) ≡ false
put_none k t no_entries h g = neither (has_alias t) false h refl
put_none k t (entry l u es) h g =
    in_order (slice_cmp nat_cmp k l) _ _ _ (neither (has_alias t) _ h g)
    (neither (has_alias t) _ h (right_none (has_alias u) _ g))
    (neither (has_alias u) _ (left_none (has_alias u) _ g)
    (put_none k t es h (right_none (has_alias u) _ g)))

-- none of the pairs' trees has an alias
abbrev PairsNone : List (List ℕ × Tree) → Type 0
PairsNone [] = Unit {0}
PairsNone (p ∷ ps) = (has_alias p.1 ≡ false) × PairsNone ps

put_all_none : (ps : List (List ℕ × Tree)) (es : Entries) → PairsNone ps
    → has_alias_of es ≡ false → has_alias_of (put_all es ps) ≡ false
put_all_none [] es h g = g
put_all_none (p ∷ ps) es h g = put_all_none ps (put p.0 p.1 es) h.1 (put_none p.0 p.1 es h.0 g)

last_pair : (ps : List (List ℕ × Tree)) (p : List ℕ × Tree) → PairsNone ps
    → has_alias p.1 ≡ false → PairsNone (ps ++ p ∷ [])
last_pair [] p h g = (g, tt)
last_pair (q ∷ ps) p h g = (h.0, last_pair ps p h.1 g)

last_tree : (ts : List Tree) (t : Tree) → has_alias_in (trees_of ts) ≡ false → has_alias t ≡ false
    → has_alias_in (trees_of (ts ++ t ∷ [])) ≡ false
last_tree [] t h g = neither (has_alias t) false g refl
last_tree (u ∷ ts) t h g =
    neither (has_alias u) _ (left_none (has_alias u) _ h)
    (last_tree ts t (right_none (has_alias u) _ h) g)

-- no term of the items is a tree with an alias
abbrev ItemsNone : List Item → Type 0
ItemsNone [] = Unit {0}
ItemsNone (x ∷ xs) = (has_alias (term_tree x.term) ≡ false) × ItemsNone xs

pairs_none : (xs : List Item) → ItemsNone xs → PairsNone (pairs_in xs)
pairs_none [] h = tt
pairs_none (x ∷ []) h = tt
pairs_none (x ∷ y ∷ xs) h =
    last_pair (pairs_in xs) (term_text y.term, term_tree x.term) (pairs_none xs h.1.1) h.0

trees_none : (xs : List Item) → ItemsNone xs → has_alias_in (trees_of (item_trees xs)) ≡ false
trees_none [] h = refl
trees_none (x ∷ xs) h = last_tree (item_trees xs) (term_tree x.term) (trees_none xs h.1) h.0

shape_none : (s : Shape) (xs : List Item) → ItemsNone xs → has_alias (tree_in s xs) ≡ false
shape_none (a_string s) xs h = refl
shape_none a_table xs h = put_all_none (pairs_in xs) no_entries (pairs_none xs h) refl
shape_none an_array xs h = trees_none xs h

leaf_none : (text : List ℕ) (from to : ℕ) (kind : Kind) (t : Tree)
    → LeafContent text from to kind t → has_alias t ≡ false
leaf_none text from to kind t (string_content i s x y) = refl
leaf_none text from to kind t (binary_content i s bytes x y z) = refl
leaf_none text from to kind t (integer_content i v x y) = refl
leaf_none text from to kind t (vector_content ns x) = refl

mutual
  items_none : (text : List ℕ) (from to : ℕ) (xs : List Item) → Items text from to xs
      → ItemsNone xs
  items_none text from to xs (nothing _) = tt
  items_none text from to xs (string_item _ i j _ ys s items x y) =
      (refl, items_none text from i ys items)
  items_none text from to xs (group_item _ i j _ ys t ks items g y) =
      (group_none text i j t ks g, items_none text from i ys items)
  items_none text from to xs (comma _ i _ ys m items x y) =
      items_none text from i (plain m ∷ ys) items

  -- the tree of a group has no alias
  pub group_none : (text : List ℕ) (from to : ℕ) (t : Tree) (ks : List (List ℕ))
      → Group text from to t ks → has_alias t ≡ false
  group_none text from to t ks (untyped _ i j xs x y items z) =
      shape_none (shape_of xs) xs (items_none text i j xs items)
  group_none text from to t ks (typed_table _ i j xs x items h z) =
      shape_none a_table xs (items_none text i j xs items)
  group_none text from to t ks (typed_array _ i j xs x items z) =
      shape_none an_array xs (items_none text i j xs items)
  group_none text from to t ks (typed_leaf _ i j kind u x content z) =
      leaf_none text i j kind u content

-- the tree of a bundle's text has no alias
pub bundle_none : (text name : List ℕ) (fallback : Bool) (tree : Tree) (keys : List (List ℕ))
    → BundleText text name fallback tree keys → has_alias tree ≡ false
bundle_none text name fallback tree keys b =
    ap has_alias b.means
    ∙ shape_none a_table b.items (items_none text b.first b.last b.items b.body)
