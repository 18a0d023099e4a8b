-- A resource in laying order: what is inside it, and then itself.
use Rattle.std.proofs.Common.{◌≡◌, ℕ, ◌+◌, ◌<◌, List, [], ◌∷◌, ◌++◌, Bor, map, length, reverse}
use Rattle.std.proofs.Common.{get_or, take, drop}
use Rattle.std.proofs.Common.{refl, sym, ◌∙◌, ap, append_assoc, append-nil, arith}
use Rattle.std.specs.List.{flat_map, sum_by}
use Rattle.std.proofs.lemmas.List.{reverse-append, map_push, map_more, at_drop_more}
use Rattle.std.proofs.lemmas.List.Sums.{sum_by-cons, sum_by-append}
use Rattle.resb_tree.specs.Tree.{Tree, string, alias, array, table, binary, integer}
use Rattle.resb_tree.specs.Tree.{int_vector, Trees, no_trees, more_trees, Entries}
use Rattle.resb_tree.specs.Tree.{no_entries, entry, trees_of}
use Rattle.resb_tree.specs.Tree.{tree_count, trees_count, entries_count}
use Rattle.resb_tree.specs.View.{tree_of, items_view, entries_view}
use Rattle.resb_tree.specs.declared.resource.Resource.{Resource}
use Rattle.resb_tree.specs.LayingOrder.{array_members, values_of, children, laying_order}
use Rattle.resb_tree.specs.LayingOrder.{laying_each}
use Rattle.resb_tree.specs.LayingOrder.{laying_values}
use Rattle.resb_tree.specs.LayingOrder.{trees_in}
use Rattle.std.proofs.lemmas.Grind.{flat_map-append}

each_is : (ts : Trees) → laying_each ts ≡ flat_map laying_order (array_members ts)
each_is no_trees = refl
each_is (more_trees t ts) = ap (λ l. laying_order t ++ l) (each_is ts)

values_is : (es : Entries) → laying_values es ≡ flat_map laying_order (values_of es)
values_is no_entries = refl
values_is (entry k t es) = ap (λ l. laying_order t ++ l) (values_is es)

-- what is inside a tree, in laying order, and then the tree
pub laying_order_is : (t : Tree) → laying_order t ≡ flat_map laying_order (children t) ++ t ∷ []
laying_order_is (string s) = refl
laying_order_is (alias s) = refl
laying_order_is (array ts) = ap (λ l. l ++ array ts ∷ []) (each_is ts)
laying_order_is (table es) = ap (λ l. l ++ table es ∷ []) (values_is es)
laying_order_is (binary s) = refl
laying_order_is (integer n) = refl
laying_order_is (int_vector s) = refl

members_count : (ts : Trees) → trees_count ts ≡ sum_by tree_count (array_members ts)
members_count no_trees = refl
members_count (more_trees t ts) =
    omega (arith, members_count ts, sum_by-cons tree_count t (array_members ts))

values_count : (es : Entries) → entries_count es ≡ sum_by tree_count (values_of es)
values_count no_entries = refl
values_count (entry k t es) = omega (
  arith,
  values_count es,
  sum_by-cons tree_count t (values_of es),
)

none_counted : sum_by tree_count [] ≡ 0
none_counted = refl

pub tree_count_is : (t : Tree) → tree_count t ≡ 1 + sum_by tree_count (children t)
tree_count_is (string s) = omega (arith, none_counted)
tree_count_is (alias s) = omega (arith, none_counted)
tree_count_is (array ts) = omega (arith, members_count ts)
tree_count_is (table es) = omega (arith, values_count es)
tree_count_is (binary s) = omega (arith, none_counted)
tree_count_is (integer n) = omega (arith, none_counted)
tree_count_is (int_vector s) = omega (arith, none_counted)

-- the members of an array of a list's trees are the list
pub members-trees_of : (ts : List Tree) → array_members (trees_of ts) ≡ ts
members-trees_of [] = refl
members-trees_of (t ∷ ts) = ap (λ l. t ∷ l) (members-trees_of ts)

pub trees_in-push : (old new : List (Bor Resource)) (r : Bor Resource) → new ≡ old ++ r ∷ []
    → trees_in new ≡ trees_in old ++ tree_of r.now ∷ []
trees_in-push old new r e = ap trees_in e ∙ map_push (λ (x : Bor Resource). tree_of x.now) old r

trees_in-append : (xs ys : List (Bor Resource)) → trees_in (xs ++ ys) ≡ trees_in xs ++ trees_in ys
trees_in-append [] ys = refl
trees_in-append (x ∷ xs) ys = ap (λ l. tree_of x.now ∷ l) (trees_in-append xs ys)

trees_in-now : (xs : List (Bor Resource)) → trees_in xs ≡ map tree_of (map (λ r. r.now) xs)
trees_in-now [] = refl
trees_in-now (x ∷ xs) = ap (λ l. tree_of x.now ∷ l) (trees_in-now xs)

-- resources that stand in a list are put behind others
pub trees_in-extend : (old xs new : List (Bor Resource)) (rs : List Resource)
    → map (λ r. r.now) xs ≡ rs → new ≡ old ++ xs → trees_in new ≡ trees_in old ++ map tree_of rs
trees_in-extend old xs new rs e f =
    ap trees_in f ∙ trees_in-append old xs
    ∙ ap (λ l. trees_in old ++ l) (trees_in-now xs ∙ ap (map tree_of) e)

-- a resource is taken off, and what is inside it put on
pub replaced : (front old new seen seen' : List Tree) (t : Tree) (all : List Tree)
    → old ≡ front ++ t ∷ [] → new ≡ front ++ children t → seen' ≡ seen ++ t ∷ []
    → flat_map laying_order old ++ reverse seen ≡ all
    → flat_map laying_order new ++ reverse seen' ≡ all
replaced front old new seen seen' t all e f g h =
    (λ i. flat_map laying_order (f i) ++ reverse (g i))
    ∙ (λ i. flat_map-append laying_order front (children t) i ++ reverse-append seen (t ∷ []) i)
    ∙ append_assoc (flat_map laying_order front) (flat_map laying_order (children t)) (t
    ∷ reverse seen)
    ∙ ap (λ l. flat_map laying_order front ++ l)
    (sym (append_assoc (flat_map laying_order (children t)) (t ∷ []) (reverse seen)))
    ∙ ap (λ l. flat_map laying_order front ++ (l ++ reverse seen)) (sym (laying_order_is t))
    ∙ sym (append_assoc (flat_map laying_order front) (laying_order t) (reverse seen))
    ∙ ap (λ l. (flat_map laying_order front ++ l)
    ++ reverse seen) (sym (append-nil (laying_order t)))
    ∙ ap (λ l. l ++ reverse seen) (sym (flat_map-append laying_order front (t ∷ [])))
    ∙ ap (λ l. flat_map laying_order l ++ reverse seen) (sym e)
    ∙ h

-- where a tree gives way to its children, fewer resources are left to be laid
pub replaced_counts : (front old new : List Tree) (t : Tree) → old ≡ front ++ t ∷ []
    → new ≡ front ++ children t → sum_by tree_count new < sum_by tree_count old
replaced_counts front old new t e f =
    omega (
      arith,
      ap (sum_by tree_count) e,
      ap (sum_by tree_count) f,
      sum_by-append tree_count front (t ∷ []),
      sum_by-append tree_count front (children t),
      sum_by-cons tree_count t [],
      none_counted,
      tree_count_is t,
    )

pub values_view : (es : List (List ℕ × Resource))
    → values_of (entries_view es) ≡ map tree_of (map (λ e. e.1) es)
values_view [] = refl
values_view (e ∷ es) = ap (λ l. tree_of e.1 ∷ l) (values_view es)

pub trees_in-reverse : (rs : List (Bor Resource)) → trees_in (reverse rs) ≡ reverse (trees_in rs)
trees_in-reverse [] = refl
trees_in-reverse (r ∷ rs) =
    ap trees_in (reverse-append (r ∷ []) rs)
    ∙ map_push (λ (x : Bor Resource). tree_of x.now) (reverse rs) r
    ∙ ap (λ l. l ++ tree_of r.now ∷ []) (trees_in-reverse rs)
    ∙ sym (reverse-append (tree_of r.now ∷ []) (trees_in rs))

-- an array has as many members as it had resources
pub items_long : (rs : List Resource) → length rs ≡ length (array_members (items_view rs))
items_long [] = refl
items_long (r ∷ rs) = omega (arith, items_long rs)

-- the resources from a place on, and those up to the one there
module _ (rs : List (Bor Resource)) (i : ℕ) (r : Bor Resource) (at : r ≡ get_or rs i r)
    (h : i < length rs) where
  -- the trees from one resource on are its own, and those behind it
  pub trees_in-drop : trees_in (drop i rs) ≡ tree_of r.now ∷ trees_in (drop (i + 1) rs)
  trees_in-drop = at_drop_more trees_in rs i r h ∙ ap (λ (x : Bor Resource). tree_of x.now
      ∷ trees_in (drop (i + 1) rs)) (sym at)

  -- the trees of one resource more are those before it, and its own
  pub trees_in-take : trees_in (take (i + 1) rs) ≡ trees_in (take i rs) ++ tree_of r.now ∷ []
  trees_in-take = map_more (λ (x : Bor Resource). tree_of x.now) rs i r h
      ∙ ap (λ (x : Bor Resource). trees_in (take i rs) ++ tree_of x.now ∷ []) (sym at)

-- the members of an array, put together again
pub trees_of-array_members : (ts : Trees) → trees_of (array_members ts) ≡ ts
trees_of-array_members no_trees = refl
trees_of-array_members (more_trees t ts) = ap (more_trees t) (trees_of-array_members ts)
