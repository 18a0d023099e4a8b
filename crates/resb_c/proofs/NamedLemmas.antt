-- What an opened file has at a name is what its tree has.
use Rattle.std.proofs.Common.{◌≡◌, ℕ, Bool, true, false, List, ◌∷◌, Option, Some, None}
use Rattle.std.proofs.Common.{refl, sym, ap, subst, ◌∙◌, slice_get, map, Result, Ok, Err}
use Rattle.std.specs.Prelude.{option_map, MatchResult, if◌then◌else◌}
use Rattle.std.specs.Option.{option_and_then}
use Rattle.std.proofs.lemmas.Option.{same_Some}
use Rattle.resb_tree.specs.Inner.Dropping.{IsNoCollection}
use Rattle.resb_tree.specs.LayingOrder.{array_members}
use Rattle.resb_tree.specs.Maps.{get}
use Rattle.resb_tree.specs.Tree.{Tree, string, alias, array, table, binary, integer, int_vector}
use Rattle.resb_tree.specs.Tree.{Entries, trees_of, map_of}
use Rattle.resb_format.specs.Content.{Content, Member, word, unit, leaf, list, entry_list}
use Rattle.resb_format.specs.Denotes.{DenEach}
use Rattle.resb_format.specs.Parts.{Parts}
use Rattle.resb_format.specs.Types as types
use Rattle.resb_read.specs.Inside.{StandsAs}
use Rattle.resb_read.specs.Leaves.{type_in}
use Rattle.resb_read.specs.Places as places
use Rattle.resb_read.specs.Places.{Place}
use Rattle.resb_read.specs.Resources.{DenSpot, DenPlace}
use Rattle.resb_read.specs.Sequences.{at_spot, at_entry, content_entries, entries_from}
use Rattle.resb_read.specs.Spots.{IsKeySpot}
use Rattle.resb_read.specs.Tables.{keys_ascend, last_named}
use Rattle.resb_read.specs.declared.cursor.Spot as cursor
use Rattle.resb_read.specs.declared.cursor.Spot.TheVariants as spot
use Rattle.resb_read.proofs.InsideTrees.{entries_stand_inside}
use Rattle.resb_walk.specs.Inner.Members.{content_of, leaf_tree, members_of}
use Rattle.resb_walk.specs.declared.members.Standing.{Standing}
use Rattle.resb_walk.specs.declared.members.Standing.TheVariants as standing
use Rattle.resb_walk.specs.declared.members.TableParts.{TableParts}
use Rattle.resb_path.specs.Finding.{Spot, tree_spot, number_spot, number_said, found_at}
use Rattle.resb_path.specs.Finding.{found_inside}
use Rattle.resb_c.specs.AtPlaces.{content_from}
use Rattle.resb_c.specs.Inner.Contents.{IsNamed, IsNumbered, spot_inside}
use Rattle.resb_c.specs.Opened.{parts_of, spot_of, place_in, says_ascending, AscendsAt, Shows}
use Rattle.resb_opened.specs.Ordered.{OrderedEach}
use Rattle.resb_c.specs.Shown.{IsFound, ValueOf}
use Rattle.resb_c.specs.declared.fault.Fault.{Fault}
use Rattle.resb_c.specs.declared.fault.Fault.TheVariants.{NotFound, OtherKind}
use Rattle.resb_c.specs.declared.opened.ResbOpened.{ResbOpened}
use Rattle.resb_c.specs.declared.resource.ResbResource.{ResbResource}
use Rattle.resb_c.proofs.AscendingLemmas.{in_entries, in_member, in_named}
use Rattle.resb_c.proofs.OpenedLemmas.{none_some, shown_fits, each_at}
use Rattle.resb_c.proofs.WithinLemmas.{found_as, none_as, number_as, no_number_as}
use Rattle.resb_c.proofs.WithinLemmas.{MemberAscends}

-- a member stands at no key
pub member_no_key : (x : Member) (s : cursor.Spot) → s ≡ places.spot_of x → IsKeySpot s → ⊥
member_no_key (word w) s is h = subst IsKeySpot is h
member_no_key (unit u) s is h = subst IsKeySpot is h

told_entries : (p : Parts) (b : Bool) (o : Option Content) (es : List (ℕ × Member))
    (found : List (Place × Place)) → o ≡ Some (entry_list es)
    → option_map (map (at_entry p)) (if b then content_entries o else None) ≡ Some found
    → found ≡ map (at_entry p) es
told_entries p true o es found e h =
    sym (same_Some _ _ (sym (ap (λ c. option_map (map (at_entry p)) (content_entries c)) e) ∙ h))
told_entries p false o es found e h = absurd (none_some h)

-- the entries that stand at a spot are those of its content
entries_are : (p : Parts) (s : cursor.Spot) (es : List (ℕ × Member)) (found : List (Place × Place))
    → content_from p s ≡ Some (entry_list es) → entries_from p s ≡ Some found
    → found ≡ map (at_entry p) es
entries_are p (spot.Descriptor w) es found e h =
    told_entries p (types.is_table (type_in w)) (content_from p (spot.Descriptor w)) es found e h
entries_are p (spot.Unit u) es found e h = absurd (none_some h)
entries_are p (spot.Word n) es found e h = absurd (none_some h)
entries_are p (spot.Key k) es found e h = absurd (none_some h)

module _ (o : ResbOpened) where
  value_ok : (m : ResbResource) (x : Option Place) (t : Option Tree) → StandsAs x t
      → x ≡ Some (at_spot (parts_of o) (spot_of m))
      → (says_ascending o ≡ true → AscendsAt (parts_of o) (spot_of m))
      → IsFound o (option_map tree_spot t) (Ok m)
  value_ok m (Some q) (Some t) (n, d) e asc =
      ((n, subst (λ y. DenPlace y t n) (same_Some _ _ e) d), asc)
  value_ok m (Some q) None h e asc = absurd h
  value_ok m None t h e asc = absurd (none_some e)

  value_none : (x : Option Place) (t : Option Tree) (e : Fault) → StandsAs x t → x ≡ None
      → e ≡ NotFound → IsFound o (option_map tree_spot t) (Err e)
  value_none None None e h is not = not
  value_none None (Some t) e h is not = absurd h
  value_none (Some q) t e h is not = absurd (none_some (sym is))

  -- something of a number, or nothing of it
  member_ok : (ms : List Member) (ts : List Tree) (n : ℕ) → DenEach (parts_of o) ms ts n
      → ((k : ℕ) → MemberAscends o (slice_get ms k)) → (x : Option ℕ)
      (a : Result ResbResource Fault)
      → (MatchResult a (λ m. option_and_then (spot_inside (list ms)) x ≡ Some (spot_of m))
      (λ e. (option_and_then (spot_inside (list ms)) x ≡ None) × (e ≡ NotFound)))
      → IsFound o
      (option_map tree_spot (option_and_then (slice_get (array_members (trees_of ts))) x)) a
  member_ok ms ts n d asc None (Ok m) h = absurd (none_some h)
  member_ok ms ts n d asc None (Err e) h = h.1
  member_ok ms ts n d asc (Some k) (Ok m) h =
      found_as o m (slice_get ms k) _ (each_at d k) (asc k) h
  member_ok ms ts n d asc (Some k) (Err e) h =
      subst (λ f. IsFound o (option_map tree_spot (slice_get (array_members (trees_of ts)) k))
      (Err f)) (sym h.1) (none_as o (slice_get ms k) _ (each_at d k) h.0)

  number_ok : (ns : List ℕ) (x : Option ℕ) (a : Result ResbResource Fault)
      → (MatchResult a
      (λ m. option_and_then (spot_inside (leaf (int_vector ns))) x ≡ Some (spot_of m))
      (λ e. (option_and_then (spot_inside (leaf (int_vector ns))) x ≡ None) × (e ≡ NotFound)))
      → IsFound o (option_map number_spot (option_and_then (slice_get ns) x)) a
  number_ok ns None (Ok m) h = absurd (none_some h)
  number_ok ns None (Err e) h = h.1
  number_ok ns (Some k) (Ok m) h = number_as o m (slice_get ns k) h
  number_ok ns (Some k) (Err e) h =
      subst (λ f. IsFound o (option_map number_spot (slice_get ns k)) (Err f)) (sym h.1)
      (no_number_as o (slice_get ns k) h.0)

  nothing_ok : (u : Tree) → ((k : ℕ) → spot_inside (leaf u) k ≡ None) → (x : Option ℕ)
      (a : Result ResbResource Fault)
      → (MatchResult a (λ m. option_and_then (spot_inside (leaf u)) x ≡ Some (spot_of m))
      (λ e. (option_and_then (spot_inside (leaf u)) x ≡ None) × (e ≡ NotFound)))
      → IsFound o None a
  nothing_ok u none None (Ok m) h = none_some h
  nothing_ok u none (Some k) (Ok m) h = none_some (sym (none k) ∙ h)
  nothing_ok u none x (Err e) h = h.1

  numbered : (c : Content) (name : List ℕ) (a : Result ResbResource Fault) → IsNumbered c name a
      → MatchResult a (λ m. option_and_then (spot_inside c) (number_said name) ≡ Some (spot_of m))
      (λ e. (option_and_then (spot_inside c) (number_said name) ≡ None) × (e ≡ NotFound))
  numbered c name (Ok m) h = h
  numbered c name (Err e) h = h

  in_leaf : (u : Tree) (name : List ℕ) (a : Result ResbResource Fault)
      → IsNumbered (leaf u) name a → IsNoCollection u
      → IsFound o (found_inside (tree_spot u) name) a
  in_leaf (int_vector ns) name a h is =
      number_ok ns (number_said name) a (numbered (leaf (int_vector ns)) name a h)
  in_leaf (array ts) name a h is = absurd is
  in_leaf (table es) name a h is = absurd is
  in_leaf (string s) name a h is =
      nothing_ok (string s) (λ k. refl) (number_said name) a (numbered (leaf (string s)) name a h)
  in_leaf (alias s) name a h is =
      nothing_ok (alias s) (λ k. refl) (number_said name) a (numbered (leaf (alias s)) name a h)
  in_leaf (binary s) name a h is =
      nothing_ok (binary s) (λ k. refl) (number_said name) a (numbered (leaf (binary s)) name a h)
  in_leaf (integer n) name a h is =
      nothing_ok (integer n) (λ k. refl) (number_said name) a (numbered (leaf (integer n)) name a h)

  module _ (r : ResbResource) (name : List ℕ) where
    stand_named : (es : List (ℕ × Member))
        → content_from (parts_of o) (spot_of r) ≡ Some (entry_list es) → (us : Entries) (n : ℕ)
        → DenSpot (parts_of o) (spot_of r) (table us) n
        → StandsAs (last_named name (map (at_entry (parts_of o)) es)) (get name us)
    stand_named es h us n d =
        let (found, are, stand) = entries_stand_inside (place_in o r) us n d in
        subst (λ xs. StandsAs (last_named name xs) (get name us))
        (entries_are (parts_of o) (spot_of r) es found h are) (stand name)

    named_found : (es : List (ℕ × Member)) (a : Result ResbResource Fault)
        → content_from (parts_of o) (spot_of r) ≡ Some (entry_list es)
        → IsNamed (parts_of o) es name a
        → (says_ascending o ≡ true → OrderedEach (parts_of o) (map (λ e. e.1) es))
        → (us : Entries) (n : ℕ) → DenSpot (parts_of o) (spot_of r) (table us) n
        → IsFound o (option_map tree_spot (get name us)) a
    named_found es (Ok m) h is each us n d =
        value_ok m (last_named name (map (at_entry (parts_of o)) es)) (get name us)
        (stand_named es h us n d) is
        (λ yes. in_named (parts_of o) name es (spot_of m) is (each yes))
    named_found es (Err e) h is each us n d =
        value_none (last_named name (map (at_entry (parts_of o)) es)) (get name us) e
        (stand_named es h us n d) is.0 is.1

    -- a table's content is that of a table
    table_shown : (es : List (ℕ × Member))
        → content_from (parts_of o) (spot_of r) ≡ Some (entry_list es) → (s : Spot) → Shows o r s
        → (us : Entries) × (n : ℕ) × (s ≡ tree_spot (table us))
        × DenSpot (parts_of o) (spot_of r) (table us) n
        × (says_ascending o ≡ true → (keys_ascend (map (at_entry (parts_of o)) es) ≡ true)
        × OrderedEach (parts_of o) (map (λ e. e.1) es))
    table_shown es h s shows =
        let (t, e, fits) = shown_fits o r (entry_list es) h s shows in
        let (ts, k, each, is) = fits in
        let same : s ≡ tree_spot (table (map_of ts)) = e ∙ ap tree_spot is in
        let ((n, d), asc) = subst (Shows o r) same shows in (
          map_of ts,
          n,
          same,
          d,
          λ yes. in_entries (parts_of o) (spot_of r) es (map_of ts) n h d (asc yes),
        )

    -- what is answered where the keys ascend if the struct says so
    abbrev pub NamesAs : List (ℕ × Member) → Result ResbResource Fault → Type 0
    NamesAs es a =
        (says_ascending o ≡ true → keys_ascend (map (at_entry (parts_of o)) es) ≡ true)
        → IsNamed (parts_of o) es name a

    pub value_told : (es : List (ℕ × Member)) (a : Result ResbResource Fault)
        → content_from (parts_of o) (spot_of r) ≡ Some (entry_list es) → NamesAs es a
        → (s : Spot) → Shows o r s → ValueOf o name a s
    value_told es a h is s shows =
        let (us, n, e, d, asc) = table_shown es h s shows in
        subst (ValueOf o name a) (sym e)
        (named_found es a h (is (λ yes. (asc yes).0)) (λ yes. (asc yes).1) us n d)

    pub step_named : (es : List (ℕ × Member)) (a : Result ResbResource Fault)
        → content_from (parts_of o) (spot_of r) ≡ Some (entry_list es)
        → NamesAs es a → (s : Spot) → Shows o r s
        → IsFound o (found_inside s name) a
    step_named es a h is s shows =
        let (us, n, e, d, asc) = table_shown es h s shows in
        subst (λ x. IsFound o (found_inside x name) a) (sym e)
        (named_found es a h (is (λ yes. (asc yes).0)) (λ yes. (asc yes).1) us n d)

    no_value : (u : Tree) → IsNoCollection u → ValueOf o name (Err OtherKind) (tree_spot u)
    no_value (string s) is = refl
    no_value (alias s) is = refl
    no_value (binary s) is = refl
    no_value (integer n) is = refl
    no_value (int_vector ns) is = refl
    no_value (array ts) is = absurd is
    no_value (table es) is = absurd is

    -- a leaf and an array have no keys
    pub leaf_no_value : (u : Tree) → content_from (parts_of o) (spot_of r) ≡ Some (leaf u)
        → (s : Spot) → Shows o r s → ValueOf o name (Err OtherKind) s
    leaf_no_value u h s shows =
        let (t, e, fits) = shown_fits o r (leaf u) h s shows in
        let (is, none) = fits in
        subst (ValueOf o name (Err OtherKind)) (sym (e ∙ ap tree_spot is)) (no_value u none)

    pub list_no_value : (ms : List Member) → content_from (parts_of o) (spot_of r) ≡ Some (list ms)
        → (s : Spot) → Shows o r s → ValueOf o name (Err OtherKind) s
    list_no_value ms h s shows =
        let (t, e, fits) = shown_fits o r (list ms) h s shows in
        let (ts, n, each, is) = fits in
        subst (ValueOf o name (Err OtherKind)) (sym (e ∙ ap tree_spot is)) refl

    pub number_no_value : (n : ℕ) (e : Fault) (s : Spot) → s ≡ number_spot n → e ≡ OtherKind
        → ValueOf o name (Err e) s
    number_no_value n e s is other =
        subst (ValueOf o name (Err e)) (sym is) (ap (λ f. Err f) other)

    -- a step into an array or a leaf
    pub step_list : (ms : List Member) (a : Result ResbResource Fault)
        → content_from (parts_of o) (spot_of r) ≡ Some (list ms) → IsNumbered (list ms) name a
        → (s : Spot) → Shows o r s → IsFound o (found_inside s name) a
    step_list ms a h is s shows =
        let (t, e, fits) = shown_fits o r (list ms) h s shows in
        let (ts, n, each, same) = fits in
        let whole = e ∙ ap tree_spot same in
        let ((i, d), asc) = subst (Shows o r) whole shows in
        subst (λ x. IsFound o (found_inside x name) a) (sym whole)
        (member_ok ms ts n each
        (λ k yes. in_member (parts_of o) (spot_of r) ms _ i h d (asc yes) k) (number_said name) a
        (numbered (list ms) name a is))

    pub step_leaf : (u : Tree) (a : Result ResbResource Fault)
        → content_from (parts_of o) (spot_of r) ≡ Some (leaf u) → IsNumbered (leaf u) name a
        → (s : Spot) → Shows o r s → IsFound o (found_inside s name) a
    step_leaf u a h is s shows =
        let (t, e, fits) = shown_fits o r (leaf u) h s shows in
        let (same, none) = fits in
        subst (λ x. IsFound o (found_inside x name) a) (sym (e ∙ ap tree_spot same))
        (in_leaf u name a is none)

    pub step_number : (n : ℕ) (s : Spot) → s ≡ number_spot n
        → IsFound o (found_inside s name) (Err NotFound)
    step_number n s is = subst (λ x. IsFound o (found_inside x name) (Err NotFound)) (sym is) refl

    -- what is no table has no keys
    pub no_table_value : (there : Standing)
        → content_from (parts_of o) (spot_of r) ≡ Some (content_of there)
        → ((es : TableParts) → there ≡ standing.Table es → ⊥) → (s : Spot) → Shows o r s
        → ValueOf o name (Err OtherKind) s
    no_table_value (standing.Leaf l) h none s shows = leaf_no_value (leaf_tree l) h s shows
    no_table_value (standing.List ms) h none s shows = list_no_value (members_of ms) h s shows
    no_table_value (standing.Table es) h none s shows = absurd (none es refl)

  -- what was found goes on
  pub goes_on : (m : ResbResource) (s : Spot) (name : List ℕ) (names : List (List ℕ))
      (whole : Option Spot) → IsFound o (found_inside s name) (Ok m)
      → found_at s (name ∷ names) ≡ whole
      → (x : Spot) × Shows o m x × (found_at x names ≡ whole)
  goes_on m s name names whole h e = by (found_inside s name) h e
    where
      by : (o' : Option Spot) → IsFound o o' (Ok m)
          → option_and_then (λ t. found_at t names) o' ≡ whole
          → (x : Spot) × Shows o m x × (found_at x names ≡ whole)
      by (Some x) h e = (x, h, e)
      by None h e = absurd h

  -- where nothing was found, nothing is found behind it
  pub stops : (f : Fault) (s : Spot) (name : List ℕ) (names : List (List ℕ)) (whole : Option Spot)
      → IsFound o (found_inside s name) (Err f) → found_at s (name ∷ names) ≡ whole
      → IsFound o whole (Err f)
  stops f s name names whole h e = by (found_inside s name) h e
    where
      by : (o' : Option Spot) → IsFound o o' (Err f)
          → option_and_then (λ t. found_at t names) o' ≡ whole → IsFound o whole (Err f)
      by (Some x) h e = absurd h
      by None h e = subst (λ w. IsFound o w (Err f)) e h
