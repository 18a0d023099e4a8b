-- Every key of a bundle text's tree is among its discovered keys.
use Rattle.std.proofs.Common.{◌≡◌, ℕ, zero, suc, List, [], ◌∷◌, ◌++◌, Bool, true, false, ◌⊎◌, inl}
use Rattle.std.proofs.Common.{inr, ⊎_elim, Ordering, Less, Equal, Greater, refl, sym, ◌∙◌, subst}
use Rattle.std.proofs.Common.{arith}
use Rattle.std.specs.Prelude.{◌&&◌, ◌||◌, not, filter, Contains, nat_eq, cond, if◌then◌else◌}
use Rattle.std.specs.Cmp.Lexicographic.{pointwise, slice_cmp, bytes_decides}
use Rattle.std.specs.Ordering.{nat_cmp, match_ordering}
use Rattle.std.proofs.lemmas.Bool.{false≢true, or_left, or_right}
use Rattle.resb_tree.specs.Tree.{Tree, Entries, no_entries, entry, trees_of, put, put_all}
use Rattle.resb_tree.specs.Keys.{is_key, is_key_in, is_key_of, same_text}
use Rattle.resb_grammar.specs.Items.{Term, string_term, group_term, Item, term_tree}
use Rattle.resb_grammar.specs.Items.{term_text, term_keys, inner_keys, is_entry}
use Rattle.resb_grammar.specs.Items.{is_pairs, pairs_in, item_trees, item_keys}
use Rattle.resb_grammar.specs.Items.{a_table, an_array, shape_of_one, shape_of}
use Rattle.resb_grammar.specs.Items.{tree_in, keys_in}
use Rattle.resb_grammar.specs.Group.{Items, nothing, string_item, group_item, comma, Group, untyped}
use Rattle.resb_grammar.specs.Group.{typed_table, typed_array, typed_leaf, LeafContent}
use Rattle.resb_grammar.specs.Group.{string_content, binary_content, integer_content}
use Rattle.resb_grammar.specs.Group.{vector_content}
use Rattle.resb_grammar.specs.GroupTypes.{Kind}
use Rattle.resb_grammar.specs.BundleText.{BundleText, first_places}
use Rattle.resb_grammar.proofs.Numbers.{one_of_or}

-- k is a term of the list
abbrev pub In : List ℕ → List (List ℕ) → Type 0
In k [] = ⊥
In k (j ∷ js) = (k ≡ j) ⊎ In k js

-- a term of the first list is one of both
pub in_left : (k : List ℕ) (xs ys : List (List ℕ)) → In k xs → In k (xs ++ ys)
in_left k [] ys h = absurd h
in_left k (x ∷ xs) ys (inl e) = inl e
in_left k (x ∷ xs) ys (inr h) = inr (in_left k xs ys h)

-- a term of the second list is one of both
pub in_right : (k : List ℕ) (xs ys : List (List ℕ)) → In k ys → In k (xs ++ ys)
in_right k [] ys h = h
in_right k (x ∷ xs) ys h = inr (in_right k xs ys h)

-- k is a key of one of the pairs, or of some table of their trees
abbrev pub KeyOf : List ℕ → List (List ℕ × Tree) → Type 0
KeyOf k [] = ⊥
KeyOf k (p ∷ ps) = ((k ≡ p.0) ⊎ (is_key k p.1 ≡ true)) ⊎ KeyOf k ps

at_order : (k : List ℕ) (o : Ordering) (a b c : Entries) (P : Type 0) → (is_key_of k a ≡ true → P)
    → (is_key_of k b ≡ true → P) → (is_key_of k c ≡ true → P)
    → is_key_of k (match_ordering o a b c) ≡ true → P
at_order k Less a b c P f g h x = f x
at_order k Equal a b c P f g h x = g x
at_order k Greater a b c P f g h x = h x

here_or : (k l : List ℕ) (t : Tree) (es : Entries)
    → ((same_text k l || is_key k t) || is_key_of k es) ≡ true
    → ((k ≡ l) ⊎ (is_key k t ≡ true)) ⊎ (is_key_of k es ≡ true)
here_or k l t es h = ⊎_elim
    (λ (w : (same_text k l || is_key k t) ≡ true). inl (⊎_elim
    (λ (v : same_text k l ≡ true). inl ((bytes_decides k l).0 v))
    (λ (v : is_key k t ≡ true). inr v)
    (one_of_or (same_text k l) (is_key k t) w)))
    (λ (w : is_key_of k es ≡ true). inr w)
    (one_of_or (same_text k l || is_key k t) (is_key_of k es) h)

-- a key of the map after a put is the key put, a key of its tree, or was one before
abbrev AfterPut : List ℕ → List ℕ → Tree → Entries → Type 0
AfterPut k l t es = ((k ≡ l) ⊎ (is_key k t ≡ true)) ⊎ (is_key_of k es ≡ true)

put_key : (k l : List ℕ) (t : Tree) (es : Entries) → is_key_of k (put l t es) ≡ true
    → AfterPut k l t es
put_key k l t no_entries h = here_or k l t no_entries h
put_key k l t (entry m u es) h =
    at_order k (slice_cmp nat_cmp l m) _ _ _ (AfterPut k l t (entry m u es))
    (here_or k l t (entry m u es))
    (λ w. replaced (here_or k m t es w))
    (λ w. kept (put_key k l t es)
    (one_of_or (same_text k m || is_key k u) (is_key_of k (put l t es)) w))
    h
  where
    replaced : ((k ≡ m) ⊎ (is_key k t ≡ true)) ⊎ (is_key_of k es ≡ true)
        → AfterPut k l t (entry m u es)
    replaced (inl (inl e)) =
        inr (or_left _ (is_key_of k es)
        (or_left (same_text k m) (is_key k u) ((bytes_decides k m).1 e)))
    replaced (inl (inr e)) = inl (inr e)
    replaced (inr e) = inr (or_right (same_text k m || is_key k u) _ e)

    later : AfterPut k l t es → AfterPut k l t (entry m u es)
    later (inl e) = inl e
    later (inr e) = inr (or_right (same_text k m || is_key k u) _ e)

    kept : (is_key_of k (put l t es) ≡ true → AfterPut k l t es)
        → ((same_text k m || is_key k u) ≡ true) ⊎ (is_key_of k (put l t es) ≡ true)
        → AfterPut k l t (entry m u es)
    kept f (inl e) = inr (or_left _ (is_key_of k es) e)
    kept f (inr e) = later (f e)

-- a key of a map comes from what was put into it
pub put_all_key : (k : List ℕ) (ps : List (List ℕ × Tree)) (es : Entries)
    → is_key_of k (put_all es ps) ≡ true → KeyOf k ps ⊎ (is_key_of k es ≡ true)
put_all_key k [] es h = inr h
put_all_key k (p ∷ ps) es h = ⊎_elim
    (λ (w : KeyOf k ps). inl (inr w))
    (λ (w : is_key_of k (put p.0 p.1 es) ≡ true). ⊎_elim
    (λ (v : (k ≡ p.0) ⊎ (is_key k p.1 ≡ true)). inl (inl v))
    (λ (v : is_key_of k es ≡ true). inr v)
    (put_key k p.0 p.1 es w))
    (put_all_key k ps (put p.0 p.1 es) h)

KeyOf-append : (k : List ℕ) (ps qs : List (List ℕ × Tree)) → KeyOf k (ps ++ qs)
    → KeyOf k ps ⊎ KeyOf k qs
KeyOf-append k [] qs h = inr h
KeyOf-append k (p ∷ ps) qs (inl h) = inl (inl h)
KeyOf-append k (p ∷ ps) qs (inr h) =
    ⊎_elim (λ (w : KeyOf k ps). inl (inr w)) (λ (w : KeyOf k qs). inr w) (KeyOf-append k ps qs h)

-- each group among the items lists the keys of its tree
abbrev Lists : Term → Type 0
Lists (string_term s) = Unit {0}
Lists (group_term t ks) = (k : List ℕ) → is_key k t ≡ true → In k ks

abbrev AllList : List Item → Type 0
AllList [] = Unit {0}
AllList (x ∷ xs) = Lists x.term × AllList xs

term_lists : (k : List ℕ) (m : Term) → Lists m → is_key k (term_tree m) ≡ true
    → In k (term_keys m)
term_lists k (string_term s) h e = absurd (false≢true e)
term_lists k (group_term t ks) h e = h k e

inner_lists : (k : List ℕ) (m : Term) → Lists m → is_key k (term_tree m) ≡ true
    → In k (inner_keys m)
inner_lists k (string_term s) h e = absurd (false≢true e)
inner_lists k (group_term t ks) h e = h k e

key_listed : (k : List ℕ) (x y : Term) (f g : Bool) → is_entry x y f g ≡ true → k ≡ term_text y
    → In k (term_keys y)
key_listed k (group_term t ks) (string_term s) f g h e = inl e
key_listed k (group_term t ks) (group_term u js) f g h e = absurd (false≢true h)
key_listed k (string_term s) y f g h e = absurd (false≢true h)

first_entry : (a b : Bool) → (a && b) ≡ true → a ≡ true
first_entry true b e = refl
first_entry false b e = absurd (false≢true e)

-- an array's keys, from its terms
trees_listed : (k : List ℕ) (xs : List Item) → AllList xs
    → is_key_in k (trees_of (item_trees xs)) ≡ true → In k (item_keys inner_keys xs)
trees_listed k [] l e = absurd (false≢true e)
trees_listed k (x ∷ xs) l e = ⊎_elim
    (λ (w : is_key_in k (trees_of (item_trees xs)) ≡ true). in_left k (item_keys inner_keys xs) _
    (trees_listed k xs l.1 w))
    (λ (w : is_key k (term_tree x.term) ≡ true). in_right k (item_keys inner_keys xs) _
    (inner_lists k x.term l.0 w))
    (last_tree k (item_trees xs) (term_tree x.term) e)
  where
    last_tree : (k : List ℕ) (ts : List Tree) (t : Tree)
        → is_key_in k (trees_of (ts ++ t ∷ [])) ≡ true
        → (is_key_in k (trees_of ts) ≡ true) ⊎ (is_key k t ≡ true)
    last_tree k [] t e =
        ⊎_elim (λ (w : is_key k t ≡ true). inr w) (λ (w : false ≡ true). absurd (false≢true w))
        (one_of_or (is_key k t) false e)
    last_tree k (u ∷ ts) t e = ⊎_elim
        (λ (w : is_key k u ≡ true). inl (or_left _ (is_key_in k (trees_of ts)) w))
        (λ (w : is_key_in k (trees_of (ts ++ t ∷ [])) ≡ true). ⊎_elim
        (λ (v : is_key_in k (trees_of ts) ≡ true). inl (or_right (is_key k u) _ v))
        (λ (v : is_key k t ≡ true). inr v)
        (last_tree k ts t w))
        (one_of_or (is_key k u) (is_key_in k (trees_of (ts ++ t ∷ []))) e)

-- a table's keys, from its pairs
rest_pairs : (a b : Bool) → (a && b) ≡ true → b ≡ true
rest_pairs true b e = e
rest_pairs false b e = absurd (false≢true e)

last_pair : (k : List ℕ) (x y : Item) (before : List (List ℕ))
    → is_entry x.term y.term x.comma y.comma ≡ true → Lists x.term
    → KeyOf k ((term_text y.term, term_tree x.term) ∷ [])
    → In k ((before ++ term_keys y.term) ++ term_keys x.term)
last_pair k x y before h l (inl (inl e)) =
    in_left k _ (term_keys x.term)
    (in_right k before _ (key_listed k x.term y.term x.comma y.comma h e))
last_pair k x y before h l (inl (inr e)) =
    in_right k _ (term_keys x.term) (term_lists k x.term l e)
last_pair k x y before h l (inr e) = absurd e

pairs_listed : (k : List ℕ) (xs : List Item) → is_pairs xs ≡ true → AllList xs
    → KeyOf k (pairs_in xs) → In k (item_keys term_keys xs)
pairs_listed k [] h l e = absurd e
pairs_listed k (x ∷ []) h l e = absurd e
pairs_listed k (x ∷ y ∷ xs) h l e = ⊎_elim
    (λ (w : KeyOf k (pairs_in xs)). in_left k _ (term_keys x.term)
    (in_left k _ (term_keys y.term) (pairs_listed k xs (rest_pairs _ _ h) (l.1).1 w)))
    (λ (w : KeyOf k ((term_text y.term, term_tree x.term) ∷ [])). last_pair k x y
    (item_keys term_keys xs) (first_entry _ _ h) l.0 w)
    (KeyOf-append k (pairs_in xs) _ e)

table_listed : (k : List ℕ) (xs : List Item) → is_pairs xs ≡ true → AllList xs
    → is_key k (tree_in a_table xs) ≡ true → In k (keys_in a_table xs)
table_listed k xs h l e = ⊎_elim
    (λ (w : KeyOf k (pairs_in xs)). pairs_listed k xs h l w)
    (λ (w : false ≡ true). absurd (false≢true w))
    (put_all_key k (pairs_in xs) no_entries e)

array_listed : (k : List ℕ) (xs : List Item) → AllList xs → is_key k (tree_in an_array xs) ≡ true
    → In k (keys_in an_array xs)
array_listed k xs l e = trees_listed k xs l e

if_listed : (k : List ℕ) (b : Bool) (xs : List Item) → (b ≡ true → is_pairs xs ≡ true) → AllList xs
    → is_key k (tree_in (if b then a_table else an_array) xs) ≡ true
    → In k (keys_in (if b then a_table else an_array) xs)
if_listed k true xs h l e = table_listed k xs (h refl) l e
if_listed k false xs h l e = array_listed k xs l e

one_listed : (k : List ℕ) (m : Term) (f : Bool) (xs : List Item) → AllList xs
    → is_key k (tree_in (shape_of_one m f) xs) ≡ true → In k (keys_in (shape_of_one m f) xs)
one_listed k (string_term s) false xs l e = absurd (false≢true e)
one_listed k (string_term s) true xs l e = array_listed k xs l e
one_listed k (group_term t ks) f xs l e = array_listed k xs l e

shape_listed : (k : List ℕ) (xs : List Item) → AllList xs
    → is_key k (tree_in (shape_of xs) xs) ≡ true → In k (keys_in (shape_of xs) xs)
shape_listed k [] l e = table_listed k [] refl l e
shape_listed k (x ∷ []) l e = one_listed k x.term x.comma (x ∷ []) l e
shape_listed k (x ∷ y ∷ xs) l e = if_listed k (is_pairs (x ∷ y ∷ xs)) (x ∷ y ∷ xs) (λ w. w) l e

leaf_listed : (text : List ℕ) (from to : ℕ) (kind : Kind) (t : Tree)
    → LeafContent text from to kind t → (k : List ℕ) → is_key k t ≡ true → ⊥
leaf_listed text from to kind t (string_content i s x y) k e = false≢true e
leaf_listed text from to kind t (binary_content i s bytes x y z) k e = false≢true e
leaf_listed text from to kind t (integer_content i v x y) k e = false≢true e
leaf_listed text from to kind t (vector_content ns x) k e = false≢true e

mutual
  items_list : (text : List ℕ) (from to : ℕ) (xs : List Item) → Items text from to xs → AllList xs
  items_list text from to xs (nothing _) = tt
  items_list text from to xs (string_item _ i j _ ys s items x y) =
      (tt, items_list text from i ys items)
  items_list text from to xs (group_item _ i j _ ys t ks items g y) =
      (group_lists text i j t ks g, items_list text from i ys items)
  items_list text from to xs (comma _ i _ ys m items x y) =
      items_list text from i (Rattle.resb_grammar.specs.Items.plain m ∷ ys) items

  group_lists : (text : List ℕ) (from to : ℕ) (t : Tree) (ks : List (List ℕ))
      → Group text from to t ks → (k : List ℕ) → is_key k t ≡ true → In k ks
  group_lists text from to t ks (untyped _ i j xs x y items z) k e =
      shape_listed k xs (items_list text i j xs items) e
  group_lists text from to t ks (typed_table _ i j xs x items h z) k e =
      table_listed k xs h (items_list text i j xs items) e
  group_lists text from to t ks (typed_array _ i j xs x items z) k e =
      array_listed k xs (items_list text i j xs items) e
  group_lists text from to t ks (typed_leaf _ i j kind u x content z) k e =
      absurd (leaf_listed text i j kind u content k e)

-- dropping repetitions drops no key
by_test : (b : Bool) (k j x : List ℕ) (rest : List (List ℕ)) → (b ≡ true → j ≡ x)
    → (k ≡ x) ⊎ ((k ≡ j) ⊎ In k rest) → (k ≡ j) ⊎ In k (cond (not b) (x ∷ rest) rest)
by_test true k j x rest same (inl e) = inl (e ∙ sym (same refl))
by_test true k j x rest same (inr h) = h
by_test false k j x rest same (inl e) = inr (inl e)
by_test false k j x rest same (inr (inl e)) = inl e
by_test false k j x rest same (inr (inr h)) = inr (inr h)

kept_by : (k j : List ℕ) (xs : List (List ℕ)) → In k xs
    → (k ≡ j) ⊎ In k (filter (λ x. not (pointwise nat_eq j x)) xs)
kept_by k j [] h = absurd h
kept_by k j (x ∷ xs) (inl e) = by_test (pointwise nat_eq j x) k j x _ (bytes_decides j x).0 (inl e)
kept_by k j (x ∷ xs) (inr h) =
    by_test (pointwise nat_eq j x) k j x _ (bytes_decides j x).0 (inr (kept_by k j xs h))

-- a term of a list is one of those at their first places
pub first_place : (k : List ℕ) (ks : List (List ℕ)) → In k ks → In k (first_places ks)
first_place k [] h = absurd h
first_place k (j ∷ js) (inl e) = inl e
first_place k (j ∷ js) (inr h) = kept_by k j (first_places js) (first_place k js h)

-- a term of a list is contained in it
pub contains : (k : List ℕ) (ks : List (List ℕ)) → In k ks → Contains ks k
contains k [] h = absurd h
contains k (j ∷ js) (inl e) = (zero, omega arith, sym e)
contains k (j ∷ js) (inr h) = let rest = contains k js h in (suc rest.0, omega arith, rest.2)

-- each key of a bundle text is among those that its reader hands on
pub listed : (text name : List ℕ) (fallback : Bool) (t : Tree) (ks : List (List ℕ))
    → BundleText text name fallback t ks → (k : List ℕ) → is_key k t ≡ true → Contains ks k
listed text name fallback t ks b k e = subst (λ js. Contains js k) (sym b.lists)
    (contains k _ (first_place k _ (table_listed k b.items b.pairs
    (items_list text b.first b.last b.items b.body)
    (subst (λ u. is_key k u ≡ true) b.means e))))
