-- What is found first stands where the path to it leads, and nothing stands before it.
use Rattle.std.proofs.Common.{◌≡◌, ◌∙◌, ℕ, zero, suc, ◌+◌, ◌<◌, List, [], ◌∷◌, ◌++◌, refl, sym}
use Rattle.std.proofs.Common.{ap, subst, arith, append_assoc, append-nil, ⊎_elim, inl, inr}
use Rattle.std.proofs.Common.{Bool, true, false, Option, Some, None, Ordering, Less, Equal, Greater}
use Rattle.std.specs.Prelude.{◌⊎◌, cond, T, ◌&&◌, slice_get, option_map}
use Rattle.std.specs.Option.{option_and_then, option_or}
use Rattle.std.specs.Ordering.{is_lt, is_eq, ordering_reverse}
use Rattle.std.specs.Cmp.{tied_itself}
use Rattle.std.specs.Cmp.Lexicographic.{nat_list_cmp_total}
use Rattle.std.specs.FinMap.{slice_cmp-IsAntisymmetric, nat_cmp-IsAntisymmetric}
use Rattle.std.specs.FinMap.Entries as fin
use Rattle.std.proofs.lemmas.Option.{none-some, same_Some}
use Rattle.resb_tree.specs.Tree.{Tree, string, alias, array, table, binary, integer, int_vector}
use Rattle.resb_tree.specs.Tree.{Trees, no_trees, more_trees, Entries, no_entries, entry}
use Rattle.resb_tree.specs.LayingOrder.{array_members}
use Rattle.resb_tree.specs.Maps.{text_cmp, keyed_trees, get, IsMap, AreMaps, AreMapsIn, AreMapsOf}
use Rattle.resb_print.specs.Paths.{Step, by_key, by_number, Tests, found_else, found_at}
use Rattle.resb_print.specs.Paths.{found_among, found_in, first_found}
use Rattle.resb_print.specs.Standing.{after_step, at_path, own_cause, end_cause, bundle_cause}
use Rattle.resb_print.specs.Standing.{Stands, IsStepBefore, IsBefore, goes_on, one_way, parts}
use Rattle.resb_print.specs.Standing.{IsFirst}

-- what is found is the first cause that stands in a bundle, with the path that leads there; or
-- nothing is found, and no cause stands anywhere in it
abbrev IsFirstOrNone : {C : Type 0} → Tests C → List ℕ → Tree → Option (List Step × C)
    → Type 0
IsFirstOrNone {C} c name root None = (path : List Step) (x : C) → Stands c name root path x → ⊥
IsFirstOrNone {C} c name root (Some found) = IsFirst c name root found.0 found.1

first : (a b : Bool) → T (a && b) → T a
first true b h = tt
first false b h = absurd h

second : (a b : Bool) → T (a && b) → T b
second true b h = h
second false b h = absurd h

less : (o : Ordering) → T (is_lt o) → o ≡ Less
less Less h = refl
less Equal h = absurd h
less Greater h = absurd h

own_key : (k : List ℕ) → text_cmp k k ≡ Equal
own_key k = tied_itself nat_list_cmp_total k

-- what is found at a key among entries is the value of the first, or found among the others
get_cases : (l k : List ℕ) (t : Tree) (es : Entries) (v : Tree) → get l (entry k t es) ≡ Some v
    → ((l ≡ k) × (t ≡ v)) ⊎ (get l es ≡ Some v)
get_cases l k t es v = by (text_cmp l k) refl
  where
    by : (o : Ordering) → text_cmp l k ≡ o → cond (is_eq o) (Some t) (get l es) ≡ Some v
        → ((l ≡ k) × (t ≡ v)) ⊎ (get l es ≡ Some v)
    by Less e h = inr h
    by Greater e h = inr h
    by Equal e h =
        inl (slice_cmp-IsAntisymmetric nat_cmp-IsAntisymmetric l k e, same_Some t v h)

get_here : (k : List ℕ) (t : Tree) (es : Entries) → get k (entry k t es) ≡ Some t
get_here k t es = ap (λ o. cond (is_eq o) (Some t) (get k es)) (own_key k)

get_past : (l k : List ℕ) (t : Tree) (es : Entries) → text_cmp k l ≡ Less
    → get l (entry k t es) ≡ get l es
get_past l k t es e =
    ap (λ o. cond (is_eq o) (Some t) (get l es))
    (nat_list_cmp_total.antisymm l k ∙ ap ordering_reverse e)

-- a key that is found is above one that is below all
beyond : (k m : List ℕ) (u : Tree) (es : Entries) → T (fin.below_all text_cmp k (keyed_trees es))
    → get m es ≡ Some u → text_cmp k m ≡ Less
beyond k m u no_entries h e = absurd (none-some u e)
beyond k m u (entry l t es) h e =
    ⊎_elim
    (λ (w : (m ≡ l) × (t ≡ u)). ap (text_cmp k) w.0 ∙ less (text_cmp k l) (first _ _ h))
    (λ (w : get m es ≡ Some u). beyond k m u es (second (is_lt (text_cmp k l)) _ h) w)
    (get_cases m l t es u e)

-- no key that is below the first is found
none_below : (l k : List ℕ) (t v : Tree) (es : Entries)
    → T (fin.below_all text_cmp k (keyed_trees es)) → text_cmp l k ≡ Less
    → get l (entry k t es) ≡ Some v → ⊥
none_below l k t v es h low e =
    ⊎_elim
    (λ (w : (l ≡ k) × (t ≡ v)). not_less (sym (ap (λ m. text_cmp m k) w.0 ∙ own_key k) ∙ low))
    (λ (w : get l es ≡ Some v). not_greater (sym low ∙ nat_list_cmp_total.antisymm l k
    ∙ ap ordering_reverse (beyond k l v es h w)))
    (get_cases l k t es v e)
  where
    not_less : Equal ≡ Less → ⊥
    not_less f = cc

    not_greater : Less ≡ Greater → ⊥
    not_greater f = cc

module _ {C : Type 0} (c : Tests C) where
  -- which cause stands where a path leads from a resource
  abbrev causes : Tree → List Step → Option C
  causes t p = option_and_then (end_cause c p) (at_path p t)

  -- the same of a resource to which a step led
  abbrev behind : Step → Tree → List Step → Option C
  behind s t p = option_and_then (end_cause c (s ∷ p)) (at_path p t)

  -- a number is no cause
  behind_number : (n : ℕ) (t : Tree) (p : List Step) → behind (by_number n) t p ≡ causes t p
  behind_number n t [] = refl
  behind_number n t (s ∷ p) = refl

  -- nor is a key that is none
  behind_key : (k : List ℕ) (t : Tree) (p : List Step) → c.of_key k ≡ None
      → behind (by_key k) t p ≡ causes t p
  behind_key k t [] e = ap (λ o. option_or o (own_cause c t)) e
  behind_key k t (s ∷ p) e = refl

  -- one step on
  stepped : (s : Step) (t u : Tree) (p : List Step) → after_step s t ≡ Some u
      → causes t (s ∷ p) ≡ behind s u p
  stepped s t u p e =
      ap (λ o. option_and_then (end_cause c (s ∷ p)) (option_and_then (at_path p) o)) e

  stepped_off : (s : Step) (t : Tree) (p : List Step) → after_step s t ≡ None
      → causes t (s ∷ p) ≡ None
  stepped_off s t p e =
      ap (λ o. option_and_then (end_cause c (s ∷ p)) (option_and_then (at_path p) o)) e

  -- what is found at a path in a resource, or comes later: the first cause in it, or it has none
  data Found (path : List Step) (t : Tree) (later found : Option (List Step × C)) : Type 0 where
    met : (p : List Step) (x : C) → found ≡ Some (path ++ p, x) → causes t p ≡ Some x
        → ((q : List Step) → IsBefore q p → causes t q ≡ None) → Found path t later found
    unmet : found ≡ later → ((p : List Step) → causes t p ≡ None) → Found path t later found

  -- the same of members from a number on
  data Members (path : List Step) (n : ℕ) (ts : Trees) (later found : Option (List Step × C))
      : Type 0 where
    met_member : (i : ℕ) (u : Tree) (p : List Step) (x : C)
        → found ≡ Some (path ++ by_number (i + n) ∷ p, x)
        → slice_get (array_members ts) i ≡ Some u → causes u p ≡ Some x
        → ((q : List Step) → IsBefore q p → causes u q ≡ None)
        → ((j : ℕ) (v : Tree) (q : List Step) → j < i → slice_get (array_members ts) j ≡ Some v
        → causes v q ≡ None)
        → Members path n ts later found
    no_member : found ≡ later
        → ((j : ℕ) (v : Tree) (q : List Step) → slice_get (array_members ts) j ≡ Some v
        → causes v q ≡ None)
        → Members path n ts later found

  -- the same of entries
  data Values (path : List Step) (es : Entries) (later found : Option (List Step × C)) : Type 0
    where
      met_value : (k : List ℕ) (u : Tree) (p : List Step) (x : C)
          → found ≡ Some (path ++ by_key k ∷ p, x) → get k es ≡ Some u
          → behind (by_key k) u p ≡ Some x
          → ((q : List Step) → IsBefore q p → behind (by_key k) u q ≡ None)
          → ((l : List ℕ) (v : Tree) (q : List Step) → text_cmp l k ≡ Less → get l es ≡ Some v
          → behind (by_key l) v q ≡ None)
          → Values path es later found
      no_value : found ≡ later
          → ((l : List ℕ) (v : Tree) (q : List Step) → get l es ≡ Some v
          → behind (by_key l) v q ≡ None)
          → Values path es later found

  -- nothing is before a path without steps
  none_before_root : (q : List Step) {X : Type 0} → IsBefore q [] → X
  none_before_root q h = absurd (not_so q [] h refl)
    where
      not_so : (p r : List Step) → IsBefore p r → r ≡ [] → ⊥
      not_so p r (goes_on s path) e = cc
      not_so p r (one_way s a b h) e = cc
      not_so p r (parts s d a b h) e = cc

  -- a resource in which no step leads anywhere
  leaf : (path : List Step) (t : Tree) (later : Option (List Step × C))
      → ((s : Step) → after_step s t ≡ None)
      → Found path t later (found_else (own_cause c t) path later)
  leaf path t later still = by (own_cause c t) refl
    where
      no_steps : (o : Option C) → own_cause c t ≡ o → o ≡ None → (p : List Step)
          → causes t p ≡ None
      no_steps o e f [] = e ∙ f
      no_steps o e f (s ∷ p) = stepped_off s t p (still s)

      by : (o : Option C) → own_cause c t ≡ o → Found path t later (found_else o path later)
      by None e = unmet refl (no_steps None e refl)
      by (Some x) e =
          met [] x (ap (λ p. Some (p, x)) (sym (append-nil path))) e (λ q h. none_before_root q h)

  -- the members of an array
  of_array : (path : List Step) (ts : Trees) (later found : Option (List Step × C))
      → Members path 0 ts later found → Found path (array ts) later found
  of_array path ts later found (no_member e none) = unmet e all
    where
      at : (j : ℕ) (q : List Step) (o : Option Tree) → slice_get (array_members ts) j ≡ o
          → causes (array ts) (by_number j ∷ q) ≡ None
      at j q None f = stepped_off (by_number j) (array ts) q f
      at j q (Some v) f =
          stepped (by_number j) (array ts) v q f ∙ behind_number j v q ∙ none j v q f

      all : (p : List Step) → causes (array ts) p ≡ None
      all [] = refl
      all (by_key k ∷ q) = refl
      all (by_number j ∷ q) = at j q (slice_get (array_members ts) j) refl
  of_array path ts later found (met_member i u p x e g k b early) =
      met (by_number i ∷ p) x (e ∙ ap (λ j. Some (path ++ by_number j ∷ p, x)) same)
      (stepped (by_number i) (array ts) u p g ∙ behind_number i u p ∙ k) before
    where
      same : i + 0 ≡ i
      same = omega arith

      at : (j : ℕ) (q : List Step) (o : Option Tree) → slice_get (array_members ts) j ≡ o → j < i
          → causes (array ts) (by_number j ∷ q) ≡ None
      at j q None f low = stepped_off (by_number j) (array ts) q f
      at j q (Some v) f low =
          stepped (by_number j) (array ts) v q f ∙ behind_number j v q ∙ early j v q low f

      step : (s : Step) (q : List Step) → IsStepBefore s (by_number i)
          → causes (array ts) (s ∷ q) ≡ None
      step (by_key l) q h = absurd h
      step (by_number j) q h = at j q (slice_get (array_members ts) j) refl h

      before : (q : List Step) → IsBefore q (by_number i ∷ p) → causes (array ts) q ≡ None
      before [] (goes_on _ _) = refl
      before (_ ∷ q) (one_way _ _ _ h) =
          stepped (by_number i) (array ts) u q g ∙ behind_number i u q ∙ b q h
      before (s ∷ q) (parts _ _ _ _ h) = step s q h

  -- one member more
  one_member : (path : List Step) (n : ℕ) (t : Tree) (ts : Trees)
      (later rest found : Option (List Step × C))
      → Found (path ++ by_number n ∷ []) t rest found → Members path (suc n) ts later rest
      → Members path n (more_trees t ts) later found
  one_member path n t ts later rest found (met p x e k b) r =
      met_member 0 t p x
      (e ∙ ap (λ q. Some (q, x)) (append_assoc path (by_number n ∷ []) p)
      ∙ ap (λ m. Some (path ++ by_number m ∷ p, x)) same) refl k b
      (λ j v q low f. absurd (omega (arith, low)))
    where
      same : n ≡ 0 + n
      same = omega arith
  one_member path n t ts later rest found (unmet e none) (no_member f others) =
      no_member (e ∙ f) all
    where
      all : (j : ℕ) (v : Tree) (q : List Step)
          → slice_get (array_members (more_trees t ts)) j ≡ Some v → causes v q ≡ None
      all zero v q g = ap (λ w. causes w q) (sym (same_Some t v g)) ∙ none q
      all (suc j) v q g = others j v q g
  one_member path n t ts later rest found (unmet e none) (met_member i u p x f g k b early) =
      met_member (suc i) u p x
      (e ∙ f ∙ ap (λ m. Some (path ++ by_number m ∷ p, x)) same) g k b all
    where
      same : i + suc n ≡ suc i + n
      same = omega arith

      all : (j : ℕ) (v : Tree) (q : List Step) → j < suc i
          → slice_get (array_members (more_trees t ts)) j ≡ Some v → causes v q ≡ None
      all zero v q low h = ap (λ w. causes w q) (sym (same_Some t v h)) ∙ none q
      all (suc j) v q low h = early j v q (omega (arith, low)) h

  -- the entries of a table
  of_table : (path : List Step) (es : Entries) (later found : Option (List Step × C))
      → Values path es later found → Found path (table es) later found
  of_table path es later found (no_value e none) = unmet e all
    where
      at : (l : List ℕ) (q : List Step) (o : Option Tree) → get l es ≡ o
          → causes (table es) (by_key l ∷ q) ≡ None
      at l q None f = stepped_off (by_key l) (table es) q f
      at l q (Some v) f = stepped (by_key l) (table es) v q f ∙ none l v q f

      all : (p : List Step) → causes (table es) p ≡ None
      all [] = refl
      all (by_number n ∷ q) = refl
      all (by_key l ∷ q) = at l q (get l es) refl
  of_table path es later found (met_value k u p x e g i b early) =
      met (by_key k ∷ p) x e (stepped (by_key k) (table es) u p g ∙ i) before
    where
      at : (l : List ℕ) (q : List Step) (o : Option Tree) → get l es ≡ o → text_cmp l k ≡ Less
          → causes (table es) (by_key l ∷ q) ≡ None
      at l q None f low = stepped_off (by_key l) (table es) q f
      at l q (Some v) f low = stepped (by_key l) (table es) v q f ∙ early l v q low f

      step : (s : Step) (q : List Step) → IsStepBefore s (by_key k)
          → causes (table es) (s ∷ q) ≡ None
      step (by_number n) q h = absurd h
      step (by_key l) q h = at l q (get l es) refl h

      before : (q : List Step) → IsBefore q (by_key k ∷ p) → causes (table es) q ≡ None
      before [] (goes_on _ _) = refl
      before (_ ∷ q) (one_way _ _ _ h) = stepped (by_key k) (table es) u q g ∙ b q h
      before (s ∷ q) (parts _ _ _ _ h) = step s q h

  -- one entry more, in front, whose key is a cause
  key_first : (path : List Step) (k : List ℕ) (t : Tree) (es : Entries)
      (later : Option (List Step × C)) (x : C) → c.of_key k ≡ Some x
      → T (fin.below_all text_cmp k (keyed_trees es))
      → Values path (entry k t es) later (Some (path ++ by_key k ∷ [], x))
  key_first path k t es later x e h =
      met_value k t [] x refl (get_here k t es) (ap (λ o. option_or o (own_cause c t)) e)
      (λ q b. none_before_root q b)
      (λ l v q low g. absurd (none_below l k t v es h low g))

  -- the same, whose key is none
  one_value : (path : List Step) (k : List ℕ) (t : Tree) (es : Entries)
      (later rest found : Option (List Step × C)) → c.of_key k ≡ None
      → T (fin.below_all text_cmp k (keyed_trees es))
      → Found (path ++ by_key k ∷ []) t rest found → Values path es later rest
      → Values path (entry k t es) later found
  one_value path k t es later rest found o h (met p x e i b) r =
      met_value k t p x (e ∙ ap (λ q. Some (q, x)) (append_assoc path (by_key k ∷ []) p))
      (get_here k t es) (behind_key k t p o ∙ i) (λ q d. behind_key k t q o ∙ b q d)
      (λ l v q low g. absurd (none_below l k t v es h low g))
  one_value path k t es later rest found o h (unmet e none) (no_value f others) =
      no_value (e ∙ f) all
    where
      here : (l : List ℕ) (v : Tree) (q : List Step) → l ≡ k → t ≡ v
          → behind (by_key l) v q ≡ None
      here l v q a d =
          (λ i. behind (by_key (a i)) (sym d i) q) ∙ behind_key k t q o ∙ none q

      all : (l : List ℕ) (v : Tree) (q : List Step) → get l (entry k t es) ≡ Some v
          → behind (by_key l) v q ≡ None
      all l v q g =
          ⊎_elim (λ (w : (l ≡ k) × (t ≡ v)). here l v q w.0 w.1)
          (λ (w : get l es ≡ Some v). others l v q w) (get_cases l k t es v g)
  one_value path k t es later rest found o h (unmet e none) (met_value m u p x f g i b early) =
      met_value m u p x (e ∙ f) (get_past m k t es (beyond k m u es h g) ∙ g) i b all
    where
      here : (l : List ℕ) (v : Tree) (q : List Step) → l ≡ k → t ≡ v
          → behind (by_key l) v q ≡ None
      here l v q a d =
          (λ i. behind (by_key (a i)) (sym d i) q) ∙ behind_key k t q o ∙ none q

      all : (l : List ℕ) (v : Tree) (q : List Step) → text_cmp l m ≡ Less
          → get l (entry k t es) ≡ Some v → behind (by_key l) v q ≡ None
      all l v q low d =
          ⊎_elim (λ (w : (l ≡ k) × (t ≡ v)). here l v q w.0 w.1)
          (λ (w : get l es ≡ Some v). early l v q low w) (get_cases l k t es v d)

  -- the same, whatever its key is
  one_entry : (path : List Step) (k : List ℕ) (t : Tree) (es : Entries)
      (later : Option (List Step × C)) → T (fin.below_all text_cmp k (keyed_trees es))
      → Values path es later (found_in c path es later)
      → Found (path ++ by_key k ∷ []) t (found_in c path es later)
      (found_at c (path ++ by_key k ∷ []) t (found_in c path es later))
      → (o : Option C) → c.of_key k ≡ o
      → Values path (entry k t es) later (found_else o (path ++ by_key k ∷ [])
      (found_at c (path ++ by_key k ∷ []) t (found_in c path es later)))
  one_entry path k t es later low rest inside (Some x) e = key_first path k t es later x e low
  one_entry path k t es later low rest inside None e =
      one_value path k t es later (found_in c path es later)
      (found_at c (path ++ by_key k ∷ []) t (found_in c path es later)) e low inside rest

  mutual
    first_at : (path : List Step) (t : Tree) (later : Option (List Step × C)) → AreMaps t
        → Found path t later (found_at c path t later)
    first_at path (string s) later h = leaf path (string s) later (λ s. still s)
      where
        still : (s' : Step) → after_step s' (string s) ≡ None
        still (by_key k) = refl
        still (by_number n) = refl
    first_at path (alias s) later h = leaf path (alias s) later (λ s. still s)
      where
        still : (s' : Step) → after_step s' (alias s) ≡ None
        still (by_key k) = refl
        still (by_number n) = refl
    first_at path (array ts) later h =
        of_array path ts later (found_among c path 0 ts later) (first_among path 0 ts later h)
    first_at path (table es) later h =
        of_table path es later (found_in c path es later) (first_in path es later h.0 h.1)
    first_at path (binary bs) later h = leaf path (binary bs) later (λ s. still s)
      where
        still : (s : Step) → after_step s (binary bs) ≡ None
        still (by_key k) = refl
        still (by_number n) = refl
    first_at path (integer n) later h = leaf path (integer n) later (λ s. still s)
      where
        still : (s : Step) → after_step s (integer n) ≡ None
        still (by_key k) = refl
        still (by_number n) = refl
    first_at path (int_vector ns) later h = leaf path (int_vector ns) later (λ s. still s)
      where
        still : (s : Step) → after_step s (int_vector ns) ≡ None
        still (by_key k) = refl
        still (by_number n) = refl

    first_among : (path : List Step) (n : ℕ) (ts : Trees) (later : Option (List Step × C))
        → AreMapsIn ts → Members path n ts later (found_among c path n ts later)
    first_among path n no_trees later h = no_member refl (λ j v q e. absurd (none-some v e))
    first_among path n (more_trees t ts) later h =
        one_member path n t ts later (found_among c path (suc n) ts later)
        (found_among c path n (more_trees t ts) later)
        (first_at (path ++ by_number n ∷ []) t (found_among c path (suc n) ts later) h.0)
        (first_among path (suc n) ts later h.1)

    first_in : (path : List Step) (es : Entries) (later : Option (List Step × C)) → IsMap es
        → AreMapsOf es → Values path es later (found_in c path es later)
    first_in path no_entries later m h = no_value refl (λ l v q e. absurd (none-some v e))
    first_in path (entry k t es) later m h =
        let low = first (fin.below_all text_cmp k (keyed_trees es)) _ m in
        let rest = first_in path es later (second (fin.below_all text_cmp k (keyed_trees es)) _ m)
        h.1 in
        let here = path ++ by_key k ∷ [] in
        let inside = first_at here t (found_in c path es later) h.0 in
        one_entry path k t es later low rest inside (c.of_key k) refl

  -- what is found in a bundle stands there, and nothing before it
  module _ (name : List ℕ) where
    none_at_root : (es : Entries) (x : C) → c.of_name name ≡ None
        → Stands c name (table es) [] x → ⊥
    none_at_root es x e h = by h.resource (same_Some (table es) h.resource h.leads) h.is_cause
      where
        by : (t : Tree) → table es ≡ t → bundle_cause c name [] t ≡ Some x → ⊥
        by t f g = none-some x (sym e ∙ ap (bundle_cause c name []) f ∙ g)

    -- a step from the root leads to what stands behind it
    stands_behind : (root : Tree) (s : Step) (p : List Step) (x : C)
        → Stands c name root (s ∷ p) x → causes root (s ∷ p) ≡ Some x
    stands_behind root s p x h =
        ap (option_and_then (end_cause c (s ∷ p))) h.leads ∙ h.is_cause

    behind_stands : (root : Tree) (s : Step) (p : List Step) (x : C)
        → causes root (s ∷ p) ≡ Some x → Stands c name root (s ∷ p) x
    behind_stands root s p x e = by (at_path (s ∷ p) root) refl e
      where
        by : (o : Option Tree) → at_path (s ∷ p) root ≡ o
            → option_and_then (end_cause c (s ∷ p)) o ≡ Some x
            → Stands c name root (s ∷ p) x
        by None f g = absurd (none-some x g)
        by (Some t) f g = record { resource = t; leads = f; is_cause = g }

    alone : (root : Tree) (x : C) → bundle_cause c name [] root ≡ Some x
        → IsFirst c name root [] x
    alone root x e = record {
      stands = record { resource = root; leads = refl; is_cause = e };
      none_before = λ p y h. none_before_root p h;
    }

    -- what is found in the entries of the root
    among_entries : (es : Entries) (found : Option (List Step × C)) → c.of_name name ≡ None
        → Found [] (table es) None found → IsFirstOrNone c name (table es) found
    among_entries es found e (unmet f none) =
        subst (IsFirstOrNone c name (table es)) (sym f) nowhere
      where
        nowhere : (p : List Step) (x : C) → Stands c name (table es) p x → ⊥
        nowhere [] x h = none_at_root es x e h
        nowhere (s ∷ p) x h =
            none-some x (sym (none (s ∷ p)) ∙ stands_behind (table es) s p x h)
    among_entries es found e (met [] x f k b) = absurd (none-some x k)
    among_entries es found e (met (s ∷ p) x f k b) =
        subst (IsFirstOrNone c name (table es)) (sym f) (record {
          stands = behind_stands (table es) s p x k;
          none_before = before;
        })
      where
        before : (q : List Step) (y : C) → IsBefore q (s ∷ p)
            → Stands c name (table es) q y → ⊥
        before [] y h d = none_at_root es y e d
        before (r ∷ q) y h d =
            none-some y (sym (b (r ∷ q) h) ∙ stands_behind (table es) r q y d)

    pub first_or_none : (t : Tree) → AreMaps t
        → IsFirstOrNone c name t (first_found c name t)
    first_or_none (string s) h = alone (string s) c.of_root refl
    first_or_none (alias s) h = alone (alias s) c.of_root refl
    first_or_none (array ts) h = alone (array ts) c.of_root refl
    first_or_none (binary bs) h = alone (binary bs) c.of_root refl
    first_or_none (integer n) h = alone (integer n) c.of_root refl
    first_or_none (int_vector ns) h = alone (int_vector ns) c.of_root refl
    first_or_none (table es) h = by (c.of_name name) refl
      where
        by : (o : Option C) → c.of_name name ≡ o
            → IsFirstOrNone c name (table es) (found_else o [] (found_in c [] es None))
        by (Some x) e = alone (table es) x e
        by None e =
            among_entries es (found_in c [] es None) e
            (of_table [] es None (found_in c [] es None) (first_in [] es None h.0 h.1))

    -- the same, by the path and by the cause
    pub first_by_path : (t : Tree) (path : List Step) (x : C) → AreMaps t
        → option_map (λ f. f.0) (first_found c name t) ≡ Some path
        → option_map (λ f. f.1) (first_found c name t) ≡ Some x → IsFirst c name t path x
    first_by_path t path x h = by (first_found c name t) (first_or_none t h)
      where
        by : (found : Option (List Step × C)) → IsFirstOrNone c name t found
            → option_map (λ f. f.0) found ≡ Some path → option_map (λ f. f.1) found ≡ Some x
            → IsFirst c name t path x
        by None k e d = absurd (none-some path e)
        by (Some f) k e d =
            subst (λ q. IsFirst c name t q x) (same_Some f.0 path e)
            (subst (IsFirst c name t f.0) (same_Some f.1 x d) k)

    pub none_without_cause : (t : Tree) (path : List Step) (x : C) → AreMaps t
        → option_map (λ f. f.1) (first_found c name t) ≡ None → Stands c name t path x → ⊥
    none_without_cause t path x h = by (first_found c name t) (first_or_none t h)
      where
        by : (found : Option (List Step × C)) → IsFirstOrNone c name t found
            → option_map (λ f. f.1) found ≡ None → Stands c name t path x → ⊥
        by None k e d = k path x d
        by (Some f) k e d = none-some f.1 (sym e)
