-- What differences do to the first of some members or entries, and to those behind it.
use Rattle.std.proofs.Common.{◌≡◌, ℕ, List, [], ◌∷◌, ◌++◌, map}
use Rattle.std.proofs.Common.{Option, Some, None, refl, sym, ap, ◌∙◌}
use Rattle.std.proofs.Common.{Less}
use Rattle.std.specs.List.{AllByRecursion}
use Rattle.std.specs.Ordering.{match_ordering}
use Rattle.resb_tree.specs.Tree.{Tree, array, table}
use Rattle.resb_tree.specs.Tree.{Trees, more_trees, Entries}
use Rattle.resb_tree.specs.Tree.{entry}
use Rattle.resb_tree.specs.Maps.{text_cmp, get}
use Rattle.resb_diff.specs.Differences.{Step, by_key, by_number}
use Rattle.resb_diff.specs.Differences.{Difference, added, removed, changed}
use Rattle.resb_diff.specs.Laws.{member, after_step}
use Rattle.resb_diff.specs.Applied.{entry_first, with_key, with_number, with_step, with_at, applied}
use Rattle.resb_diff.specs.Applied.{path_of}
use Rattle.resb_diff.proofs.LawLemmas.{own_key}
use Rattle.resb_diff.proofs.SoLemmas.{Beyond, get_here, get_past, turned}
use Rattle.resb_diff.proofs.BehindLemmas.{moved, behind, one_on, shifted}

-- a difference whose path stays in a place
abbrev pub AllIn : (List Step → Type 0) → List Difference → Type 0
AllIn P = AllByRecursion (λ d. P (path_of d))

-- differences that carry out a path's edit on what is behind the first, whatever the first is
module _ {R : Type 0} (E : R → Tree) (C : Tree → R → Tree) (lift : List Step → List Step)
    (IsIn : List Step → Type 0)
    (step : (p : List Step) (o : Option Tree) (v : R) → IsIn p
    → (w : R) × (with_at p o (Some (E v)) ≡ Some (E w))
    × ((x : Tree) → with_at (lift p) o (Some (C x v)) ≡ Some (C x w))) where
  pub tail : (ds : List Difference) → AllIn IsIn ds → (v : R)
      → (w : R) × (applied ds (Some (E v)) ≡ Some (E w))
      × ((x : Tree) → applied (map (moved lift) ds) (Some (C x v)) ≡ Some (C x w))
  tail [] h v = (v, refl, λ x. refl)
  tail (added p u ∷ ds) h v =
      let s = step p (Some u) v h.0 in
      let r = tail ds h.1 s.0 in (
        r.0,
        ap (applied ds) s.1 ∙ r.1,
        λ x. ap (applied (map (moved lift) ds)) (s.2 x) ∙ r.2 x,
      )
  tail (changed p t u ∷ ds) h v =
      let s = step p (Some u) v h.0 in
      let r = tail ds h.1 s.0 in (
        r.0,
        ap (applied ds) s.1 ∙ r.1,
        λ x. ap (applied (map (moved lift) ds)) (s.2 x) ∙ r.2 x,
      )
  tail (removed p t ∷ ds) h v =
      let r = tail ds h.1 v in
      let s = step p None r.0 h.0 in (
        s.0,
        ap (with_at p None) r.1 ∙ s.1,
        λ x. ap (with_at (lift p) None) (r.2 x) ∙ s.2 x,
      )

-- nothing is removed at the root
abbrev pub IsDeep : Difference → Type 0
IsDeep (removed [] t) = ⊥
IsDeep (removed (s ∷ p) t) = Unit {0}
IsDeep (added p u) = Unit {0}
IsDeep (changed p t u) = Unit {0}

put_some : (p : List Step) (u x : Tree)
    → (y : Tree) × (with_at p (Some u) (Some x) ≡ Some y)
put_some [] u x = (u, refl)
put_some (s ∷ p) u x = (with_step s (with_at p (Some u) (after_step s x)) x, refl)

-- differences inside the first, and such behind it
module _ {R : Type 0} (C : Tree → R → Tree) (s : Step)
    (here : (x : Tree) (v : R) → after_step s (C x v) ≡ Some x)
    (there : (x y : Tree) (v : R) → with_step s (Some y) (C x v) ≡ C y v) where
  in_first : (p : List Step) (o : Option Tree) (x y : Tree) (v : R)
      → with_at p o (Some x) ≡ Some y → with_at (s ∷ p) o (Some (C x v)) ≡ Some (C y v)
  in_first p o x y v e =
      ap (λ a. Some (with_step s (with_at p o a) (C x v))) (here x v)
      ∙ ap (λ a. Some (with_step s a (C x v))) e ∙ ap Some (there x y v)

  pub head : (ds : List Difference) → AllByRecursion IsDeep ds → (es : List Difference) (v w : R)
      → ((x : Tree) → applied es (Some (C x v)) ≡ Some (C x w)) → (x : Tree)
      → (y : Tree) × (applied ds (Some x) ≡ Some y)
      × (applied (map (behind s) ds ++ es) (Some (C x v)) ≡ Some (C y w))
  head [] h es v w f x = (x, refl, f x)
  head (added p u ∷ ds) h es v w f x =
      let y = put_some p u x in
      let r = head ds h.1 es v w f y.0 in (
        r.0,
        ap (applied ds) y.1 ∙ r.1,
        ap (applied (map (behind s) ds ++ es)) (in_first p (Some u) x y.0 v y.1) ∙ r.2,
      )
  head (changed p t u ∷ ds) h es v w f x =
      let y = put_some p u x in
      let r = head ds h.1 es v w f y.0 in (
        r.0,
        ap (applied ds) y.1 ∙ r.1,
        ap (applied (map (behind s) ds ++ es)) (in_first p (Some u) x y.0 v y.1) ∙ r.2,
      )
  head (removed [] t ∷ ds) h es v w f x = absurd h.0
  head (removed (q ∷ p) t ∷ ds) h es v w f x =
      let r = head ds h.1 es v w f x in (
        with_step q (with_at p None (after_step q r.0)) r.0,
        ap (with_at (q ∷ p) None) r.1,
        ap (with_at (s ∷ q ∷ p) None) r.2
            ∙ in_first (q ∷ p) None r.0
            (with_step q (with_at p None (after_step q r.0)) r.0) w refl,
      )

-- a path has a step
abbrev pub HasStep : List Step → Type 0
HasStep [] = ⊥
HasStep (s ∷ p) = Unit {0}

abbrev pub first_tree : Tree → Trees → Tree
first_tree x v = array (more_trees x v)

array_step : (p : List Step) (o : Option Tree) (v : Trees) → HasStep p
    → (w : Trees) × (with_at p o (Some (array v)) ≡ Some (array w))
    × ((x : Tree) → with_at (one_on p) o (Some (first_tree x v)) ≡ Some (first_tree x w))
array_step [] o v h = absurd h
array_step (by_key k ∷ p) o v h = (v, refl, λ x. refl)
array_step (by_number n ∷ p) o v h =
    (with_number n (with_at p o (member n v)) v, refl, λ x. refl)

pub array_tail : (ds : List Difference) → AllIn HasStep ds → (v : Trees)
    → (w : Trees) × (applied ds (Some (array v)) ≡ Some (array w))
    × ((x : Tree) → applied (map shifted ds) (Some (first_tree x v)) ≡ Some (first_tree x w))
array_tail = tail array first_tree one_on HasStep array_step

pub array_head : (ds : List Difference) → AllByRecursion IsDeep ds → (es : List Difference)
    (v w : Trees) → ((x : Tree) → applied es (Some (first_tree x v)) ≡ Some (first_tree x w))
    → (x : Tree) → (y : Tree) × (applied ds (Some x) ≡ Some y)
    × (applied (map (behind (by_number 0)) ds ++ es) (Some (first_tree x v))
    ≡ Some (first_tree y w))
array_head = head first_tree (by_number 0) (λ x v. refl) (λ x y v. refl)

-- a path leads into a table to a key that is above a bound
abbrev pub FirstBeyond : Option (List ℕ) → List Step → Type 0
FirstBeyond b [] = ⊥
FirstBeyond b (by_key q ∷ p) = Beyond b q
FirstBeyond b (by_number n ∷ p) = ⊥

abbrev pub first_entry : List ℕ → Tree → Entries → Tree
first_entry k x v = table (entry k x v)

pub key_past : (q k : List ℕ) (o : Option Tree) (x : Tree) (v : Entries) → text_cmp k q ≡ Less
    → with_key q o (entry k x v) ≡ entry k x (with_key q o v)
key_past q k o x v h =
    ap (λ r. match_ordering r (entry_first q o (entry k x v)) (entry_first q o v)
    (entry k x (with_key q o v))) (turned k q Less h)

pub key_before : (q k : List ℕ) (o : Option Tree) (x : Tree) (v : Entries) → text_cmp q k ≡ Less
    → with_key q o (entry k x v) ≡ entry_first q o (entry k x v)
key_before q k o x v h =
    ap (λ r. match_ordering r (entry_first q o (entry k x v)) (entry_first q o v)
    (entry k x (with_key q o v))) h

pub key_here : (k : List ℕ) (o : Option Tree) (x : Tree) (v : Entries)
    → with_key k o (entry k x v) ≡ entry_first k o v
key_here k o x v =
    ap (λ r. match_ordering r (entry_first k o (entry k x v)) (entry_first k o v)
    (entry k x (with_key k o v))) (own_key k)

table_step : (k : List ℕ) (p : List Step) (o : Option Tree) (v : Entries)
    → FirstBeyond (Some k) p → (w : Entries) × (with_at p o (Some (table v)) ≡ Some (table w))
    × ((x : Tree) → with_at p o (Some (first_entry k x v)) ≡ Some (first_entry k x w))
table_step k [] o v h = absurd h
table_step k (by_number n ∷ p) o v h = absurd h
table_step k (by_key q ∷ p) o v h = (
  with_key q (with_at p o (get q v)) v,
  refl,
  λ x. ap (λ a. Some (table (with_key q (with_at p o a) (entry k x v)))) (get_past q k x v h)
      ∙ ap (λ es. Some (table es)) (key_past q k (with_at p o (get q v)) x v h),
)

unmoved : (ds : List Difference) → map (moved (λ p. p)) ds ≡ ds
unmoved [] = refl
unmoved (added p u ∷ ds) = ap (λ es. added p u ∷ es) (unmoved ds)
unmoved (removed p t ∷ ds) = ap (λ es. removed p t ∷ es) (unmoved ds)
unmoved (changed p t u ∷ ds) = ap (λ es. changed p t u ∷ es) (unmoved ds)

pub table_tail : (k : List ℕ) (ds : List Difference) → AllIn (FirstBeyond (Some k)) ds
    → (v : Entries) → (w : Entries) × (applied ds (Some (table v)) ≡ Some (table w))
    × ((x : Tree) → applied ds (Some (first_entry k x v)) ≡ Some (first_entry k x w))
table_tail k ds h v =
    let r = tail table (first_entry k) (λ p. p) (FirstBeyond (Some k)) (table_step k) ds h v in (
      r.0,
      r.1,
      λ x. ap (λ es. applied es (Some (first_entry k x v))) (sym (unmoved ds)) ∙ r.2 x,
    )

pub table_head : (k : List ℕ) (ds : List Difference) → AllByRecursion IsDeep ds
    → (es : List Difference) (v w : Entries)
    → ((x : Tree) → applied es (Some (first_entry k x v)) ≡ Some (first_entry k x w))
    → (x : Tree) → (y : Tree) × (applied ds (Some x) ≡ Some y)
    × (applied (map (behind (by_key k)) ds ++ es) (Some (first_entry k x v))
    ≡ Some (first_entry k y w))
table_head k = head (first_entry k) (by_key k) (λ x v. get_here k k x v (own_key k))
    (λ x y v. ap table (key_here k (Some y) x v))
