-- What is inside a resource of an opened file is what is inside its tree.
use Rattle.std.proofs.Common.{◌≡◌, ℕ, zero, suc, true, false, List, [], ◌∷◌, Option, Some, None}
use Rattle.std.proofs.Common.{refl, sym, ap, subst, ◌∙◌, ◌≤◌, arith, length, drop, slice_get}
use Rattle.std.proofs.Common.{Result, Ok, Err}
use Rattle.std.specs.Prelude.{option_map}
use Rattle.std.proofs.lemmas.Bool.{false≢true}
use Rattle.std.proofs.lemmas.Option.{same_Some}
use Rattle.resb_tree.specs.Inner.Dropping.{IsNoCollection}
use Rattle.resb_tree.specs.Tree.{Tree, string, alias, array, table, binary, integer, int_vector}
use Rattle.resb_tree.specs.Tree.{trees_of}
use Rattle.resb_format.specs.Content.{Content, Member, leaf, list, entry_list}
use Rattle.resb_format.specs.Denotes.{DenEach, DenEntries}
use Rattle.resb_read.specs.Places as places
use Rattle.resb_read.specs.Resources.{DenSpot}
use Rattle.resb_read.specs.declared.cursor.Spot.TheVariants as spot
use Rattle.resb_path.specs.Finding.{Spot, tree_spot, number_spot}
use Rattle.resb_c.specs.AtPlaces.{content_from}
use Rattle.resb_c.specs.Inner.Contents.{IsInside, has_inside}
use Rattle.resb_c.specs.Opened.{parts_of, spot_of, says_ascending, AscendsAt, Shows}
use Rattle.resb_c.specs.Shown.{IsFound, MemberOf}
use Rattle.resb_c.specs.declared.fault.Fault.{Fault}
use Rattle.resb_c.specs.declared.fault.Fault.TheVariants.{NotFound, OtherKind}
use Rattle.resb_c.specs.declared.opened.ResbOpened.{ResbOpened}
use Rattle.resb_c.specs.declared.resource.ResbResource.{ResbResource}
use Rattle.resb_c.proofs.AscendingLemmas.{at_number, in_entry, in_member}
use Rattle.resb_c.proofs.OpenedLemmas.{none_some, Fits, shown_fits, MemberAs, each_at, EntryAs}
use Rattle.resb_c.proofs.OpenedLemmas.{entries_at, same_entries}

-- what stands first behind so many has that number
pub get_first : {A : Type 0} (xs : List A) (k : ℕ) (y : A) (ys : List A) → drop k xs ≡ y ∷ ys
    → slice_get xs k ≡ Some y
get_first xs zero y ys h = ap (λ zs. slice_get zs 0) h
get_first (x ∷ xs) (suc k) y ys h = get_first xs k y ys h
get_first [] (suc k) y ys h = ap (λ zs. slice_get zs 0) h

-- and where nothing stands behind so many, nothing has it
pub get_none : {A : Type 0} (xs : List A) (k : ℕ) → drop k xs ≡ [] → slice_get xs k ≡ None
get_none xs zero h = ap (λ zs. slice_get zs 0) h
get_none (x ∷ xs) (suc k) h = get_none xs k h
get_none [] (suc k) h = refl

-- nothing has a number that there are not so many for
pub get_past : {A : Type 0} (xs : List A) (k : ℕ) → length xs ≤ k → slice_get xs k ≡ None
get_past [] zero h = refl
get_past [] (suc k) h = refl
get_past (x ∷ xs) zero h = absurd (omega (arith, h))
get_past (x ∷ xs) (suc k) h = get_past xs k (omega (arith, h))

module _ (o : ResbOpened) where
  -- where the struct says so, the tables of a member ascend
  abbrev pub MemberAscends : Option Member → Type 0
  MemberAscends x =
      says_ascending o ≡ true → (y : Member) → x ≡ Some y
      → AscendsAt (parts_of o) (places.spot_of y)

  -- a member that is found shows its tree
  pub found_as : (m : ResbResource) (x : Option Member) (t : Option Tree)
      → MemberAs (parts_of o) x t → MemberAscends x
      → option_map places.spot_of x ≡ Some (spot_of m) → IsFound o (option_map tree_spot t) (Ok m)
  found_as m (Some x) (Some t) (n, d) asc e = (
    (n, subst (λ s. DenSpot (parts_of o) s t n) (same_Some _ _ e) d),
    λ yes. subst (AscendsAt (parts_of o)) (same_Some _ _ e) (asc yes x refl),
  )
  found_as m (Some x) None d asc e = absurd d
  found_as m None t d asc e = absurd (none_some e)

  pub none_as : (x : Option Member) (t : Option Tree) → MemberAs (parts_of o) x t
      → option_map places.spot_of x ≡ None → IsFound o (option_map tree_spot t) (Err NotFound)
  none_as None None d e = refl
  none_as None (Some t) d e = absurd d
  none_as (Some x) t d e = absurd (none_some (sym e))

  -- the same of an entry
  abbrev EntryAscends : Option (ℕ × Member) → Type 0
  EntryAscends x =
      says_ascending o ≡ true → (y : ℕ × Member) → x ≡ Some y
      → AscendsAt (parts_of o) (places.spot_of y.1)

  entry_as : (m : ResbResource) (x : Option (ℕ × Member)) (e : Option (List ℕ × Tree))
      → EntryAs (parts_of o) x e → EntryAscends x
      → option_map (λ (y : ℕ × Member). places.spot_of y.1) x ≡ Some (spot_of m)
      → IsFound o (option_map (λ (y : List ℕ × Tree). tree_spot y.1) e) (Ok m)
  entry_as m (Some x) (Some e) (key, n, d) asc h = (
    (n, subst (λ s. DenSpot (parts_of o) s e.1 n) (same_Some _ _ h) d),
    λ yes. subst (AscendsAt (parts_of o)) (same_Some _ _ h) (asc yes x refl),
  )
  entry_as m (Some x) None d asc h = absurd d
  entry_as m None e d asc h = absurd (none_some h)

  no_entry_as : (x : Option (ℕ × Member)) (e : Option (List ℕ × Tree)) → EntryAs (parts_of o) x e
      → option_map (λ (y : ℕ × Member). places.spot_of y.1) x ≡ None
      → IsFound o (option_map (λ (y : List ℕ × Tree). tree_spot y.1) e) (Err NotFound)
  no_entry_as None None d h = refl
  no_entry_as None (Some e) d h = absurd d
  no_entry_as (Some x) e d h = absurd (none_some (sym h))

  -- the same of a number of a vector
  pub number_as : (m : ResbResource) (x : Option ℕ) → option_map spot.Word x ≡ Some (spot_of m)
      → IsFound o (option_map number_spot x) (Ok m)
  number_as m (Some n) h =
      let is = sym (same_Some _ _ h) in
      (is, λ yes. at_number (parts_of o) (spot_of m) n is)
  number_as m None h = absurd (none_some h)

  pub no_number_as : (x : Option ℕ) → option_map spot.Word x ≡ None
      → IsFound o (option_map number_spot x) (Err NotFound)
  no_number_as None h = refl
  no_number_as (Some n) h = absurd (none_some (sym h))

  module _ (r : ResbResource) (k : ℕ) where
    in_list : (ms : List Member) (a : Result ResbResource Fault) → IsInside (list ms) k a
        → (ts : List Tree) (n : ℕ) → DenEach (parts_of o) ms ts n
        → MemberAscends (slice_get ms k)
        → MemberOf o r k a (tree_spot (array (trees_of ts)))
    in_list ms (Ok m) h ts n d asc = found_as m (slice_get ms k) _ (each_at d k) asc h.0
    in_list ms (Err NotFound) h ts n d asc = none_as (slice_get ms k) _ (each_at d k) h.0
    in_list ms (Err OtherKind) h ts n d asc = absurd (false≢true (sym h.1))
    in_list ms (Err _) h ts n d asc = absurd h

    in_table : (es : List (ℕ × Member)) (a : Result ResbResource Fault)
        → IsInside (entry_list es) k a → (ts : List (List ℕ × Tree)) (n : ℕ)
        → DenEntries (parts_of o) es ts n → EntryAscends (slice_get es k)
        → IsFound o (option_map (λ (e : List ℕ × Tree). tree_spot e.1) (slice_get ts k)) a
    in_table es (Ok m) h ts n d asc =
        entry_as m (slice_get es k) (slice_get ts k) (entries_at d k) asc h.0
    in_table es (Err NotFound) h ts n d asc =
        no_entry_as (slice_get es k) (slice_get ts k) (entries_at d k) h.0
    in_table es (Err OtherKind) h ts n d asc = absurd (false≢true (sym h.1))
    in_table es (Err _) h ts n d asc = absurd h

    none_inside : (c : Content) (a : Result ResbResource Fault) → has_inside c ≡ false
        → IsInside c k a → a ≡ Err OtherKind
    none_inside c (Ok m) e h = absurd (false≢true (sym e ∙ h.1))
    none_inside c (Err NotFound) e h = absurd (false≢true (sym e ∙ h.1))
    none_inside c (Err OtherKind) e h = refl
    none_inside c (Err _) e h = absurd h

    in_leaf : (a : Result ResbResource Fault) (t : Tree) → IsInside (leaf t) k a → IsNoCollection t
        → MemberOf o r k a (tree_spot t)
    in_leaf (Ok m) (int_vector ns) h is = number_as m (slice_get ns k) h.0
    in_leaf (Err NotFound) (int_vector ns) h is = no_number_as (slice_get ns k) h.0
    in_leaf (Err OtherKind) (int_vector ns) h is = absurd (false≢true (sym h.1))
    in_leaf (Err _) (int_vector ns) h is = absurd h
    in_leaf a (array ts) h is = absurd is
    in_leaf a (table es) h is = absurd is
    in_leaf a (string x) h is = none_inside (leaf (string x)) a refl h
    in_leaf a (alias x) h is = none_inside (leaf (alias x)) a refl h
    in_leaf a (binary x) h is = none_inside (leaf (binary x)) a refl h
    in_leaf a (integer x) h is = none_inside (leaf (integer x)) a refl h

    by_content : (c : Content) (a : Result ResbResource Fault)
        → content_from (parts_of o) (spot_of r) ≡ Some c → IsInside c k a → (t : Tree)
        → Fits (parts_of o) c t → Shows o r (tree_spot t) → MemberOf o r k a (tree_spot t)
    by_content (leaf u) a h is t (e, none) shows =
        subst (λ x. MemberOf o r k a (tree_spot x)) (sym e) (in_leaf a u is none)
    by_content (list ms) a h is t (ts, n, d, e) ((i, den), asc) =
        let whole = subst (λ x. DenSpot (parts_of o) (spot_of r) x i) e den in
        subst (λ x. MemberOf o r k a (tree_spot x)) (sym e) (in_list ms a is ts n d
        (λ yes. in_member (parts_of o) (spot_of r) ms _ i h whole (asc yes) k))
    by_content (entry_list es) a h is t (ts, n, d, e) ((i, den), asc) =
        let whole = subst (λ x. DenSpot (parts_of o) (spot_of r) x i) e den in
        subst (λ x. MemberOf o r k a (tree_spot x)) (sym e) (λ us holds.
        let (fs, m, there, each) = holds in
        let same : fs ≡ es = same_entries fs es (same_Some _ _ (sym there ∙ h)) in
        in_table es a is us m (subst (λ x. DenEntries (parts_of o) x us m) same each)
        (λ yes. in_entry (parts_of o) (spot_of r) es _ i h whole (asc yes) k))

  -- what is answered of what stands at a resource is so of the tree
  pub member_told : (r : ResbResource) (k : ℕ) (c : Content) (a : Result ResbResource Fault)
      → content_from (parts_of o) (spot_of r) ≡ Some c → IsInside c k a → (s : Spot)
      → Shows o r s → MemberOf o r k a s
  member_told r k c a h is s shows =
      let (t, e, fits) = shown_fits o r c h s shows in
      subst (MemberOf o r k a) (sym e)
      (by_content r k c a h is t fits (subst (Shows o r) e shows))

  -- nothing is inside a number
  pub number_told : (r : ResbResource) (k n : ℕ) (e : Fault) (s : Spot) → s ≡ number_spot n
      → e ≡ OtherKind → MemberOf o r k (Err e) s
  number_told r k n e s is other =
      subst (MemberOf o r k (Err e)) (sym is) (ap (λ f. Err f) other)
