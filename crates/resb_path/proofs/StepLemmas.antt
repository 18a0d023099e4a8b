-- A step of a path in a file goes where the one in the tree goes.
use Rattle.std.proofs.Common.{◌≡◌, ℕ, Bool, true, false, List, ◌∷◌, Option, Some}
use Rattle.std.proofs.Common.{None, refl, sym, ap, subst, ◌∙◌, ◌⊎◌, inl, inr, map, slice_get}
use Rattle.std.specs.Prelude.{◌==◌, ◌||◌, option_map, Result, MatchResult, MatchOption}
use Rattle.std.specs.Prelude.{is_some}
use Rattle.std.proofs.Common.{Ok, Err}
use Rattle.std.specs.Option.{option_and_then}
use Rattle.std.proofs.lemmas.Bool.{false≢true, or_cases, eqb-true}
use Rattle.std.proofs.lemmas.Option.{same_Some, slice_get-map}
use Rattle.resb_tree.specs.LayingOrder.{array_members}
use Rattle.resb_tree.specs.Maps.{get}
use Rattle.resb_tree.specs.Tree.{Tree, string, alias, array, table, binary, integer, int_vector}
use Rattle.resb_format.specs.Parts.{Parts}
use Rattle.resb_format.specs.declared.error.ReadingError.{ReadingError}
use Rattle.resb_walk.specs.BlockRefusals.{Says}
use Rattle.resb_format.specs.Types as types
use Rattle.resb_format.specs.Descriptor.{type_number}
use Rattle.resb_format.specs.declared.repr_type.ResourceReprType.TheVariants as kind
use Rattle.resb_read.specs.Inside.{StandsAs, IsTypeOf, HasNoMembers}
use Rattle.resb_read.specs.Places.{Place, place_of}
use Rattle.resb_read.specs.PlaceRefusals.{entries_refusal, members_refusal}
use Rattle.resb_read.specs.Resources.{DenPlace, DenSpot}
use Rattle.resb_read.specs.Sequences.{entries_at, members_at, at_spot}
use Rattle.resb_read.specs.Spots.{type_at, type_from, IsWordSpot}
use Rattle.resb_read.specs.Tables.{last_named}
use Rattle.resb_read.specs.declared.cursor.Cursor.{Cursor}
use Rattle.resb_read.specs.declared.cursor.Spot as cursor
use Rattle.resb_read.specs.declared.cursor.Spot.TheVariants as spot
use Rattle.resb_read.proofs.InsideTrees.{entries_stand_inside, members_stand_inside}
use Rattle.resb_read.proofs.InsideTrees.{numbers_stand_inside, types_tell_trees}
use Rattle.resb_path.specs.Finding.{Spot, tree_spot, number_spot, number_said}
use Rattle.resb_path.specs.Finding.{found_inside, found_at, member_said, element_said}
use Rattle.resb_path.specs.InFiles.{IsAt, AreFound}

found_tree : (c : Option Place) (t : Option Tree) → StandsAs c t
    → AreFound c (option_map tree_spot t)
found_tree (Some p) (Some t) h = h
found_tree (Some p) None h = h
found_tree None (Some t) h = h
found_tree None None h = tt

-- the two as one where both are read at a number of a vector
found_number : (p : Parts) (o : Option ℕ)
    → AreFound (option_map (at_spot p) (option_map spot.Word o)) (option_map number_spot o)
found_number p (Some m) = refl
found_number p None = tt

pub none_some : {A : Type 0} {x : A} {o : Option A} → o ≡ None → o ≡ Some x → ⊥
none_some {A} {x} h k = subst IsNone (sym h ∙ k) tt
  where
    IsNone : Option A → Type 0
    IsNone None = Unit {0}
    IsNone (Some y) = ⊥

-- a place that has a type is no number's
no_number : (p : Place) (m type : ℕ) → p.at ≡ spot.Word m → type_at p ≡ Some type → ⊥
no_number p m type h told = none_some (ap (type_from p.parts) h) told

-- the types of tables, and those of arrays and vectors, are apart
abbrev IsApart : ℕ → Type 0
IsApart type = (types.is_array type ≡ false) × ((type == type_number kind.IntVector) ≡ false)

apart_at : (type number : ℕ) → (type == number) ≡ true → IsApart number → IsApart type
apart_at type number h is = subst IsApart (sym (eqb-true type number h)) is

pub table_apart : (type : ℕ) → types.is_table type ≡ true → IsApart type
table_apart type h =
    by (or_cases (type == type_number kind.Table || type == type_number kind._Table32) _ h)
  where
    first : ((type == type_number kind.Table) ≡ true) ⊎ ((type == type_number kind._Table32) ≡ true)
        → IsApart type
    first (inl k) = apart_at type (type_number kind.Table) k (refl, refl)
    first (inr k) = apart_at type (type_number kind._Table32) k (refl, refl)

    by : ((type == type_number kind.Table || type == type_number kind._Table32) ≡ true)
        ⊎ ((type == type_number kind.Table16) ≡ true)
        → IsApart type
    by (inl k) = first (or_cases (type == type_number kind.Table) _ k)
    by (inr k) = apart_at type (type_number kind.Table16) k (refl, refl)

-- a type of none of them has no members
neither : (type : ℕ) (a v : Bool) → types.is_table type ≡ false → (a || v) ≡ false
    → types.is_array type ≡ a → (type == type_number kind.IntVector) ≡ v → HasNoMembers type
neither type false false t h a v = (t, a, v)
neither type false true t h a v = absurd (false≢true (sym h))
neither type true v t h a w = absurd (false≢true (sym h))

pub has_none : (type : ℕ) → types.is_table type ≡ false
    → (types.is_array type || type == type_number kind.IntVector) ≡ false → HasNoMembers type
has_none type t h =
    neither type (types.is_array type) (type == type_number kind.IntVector) t h refl refl

module _ (p : Place) (type : ℕ) (told : type_at p ≡ Some type) where
  of_type : (t : Tree) (n : ℕ) → DenPlace p t n → IsTypeOf t type
  of_type t n d =
      let (own, is, kind) = types_tell_trees p t n d in
      subst (IsTypeOf t) (same_Some _ _ (sym is ∙ told)) kind

  module _ (is_table : types.is_table type ≡ true) (name : List ℕ) where
    no_array : types.is_array type ≡ false
    no_array = (table_apart type is_table).0

    no_vector : (type == type_number kind.IntVector) ≡ false
    no_vector = (table_apart type is_table).1

    in_table : (c : Option Place) → option_map (last_named name) (entries_at p) ≡ Some c
        → (n : ℕ) (t : Tree) → DenPlace p t n → IsTypeOf t type
        → AreFound c (found_inside (tree_spot t) name)
    in_table c are n (table es) d k =
        let (places, is, stand) = entries_stand_inside p es n d in
        let same : last_named name places ≡ c =
        same_Some _ _ (sym (ap (option_map (last_named name)) is) ∙ are) in
        let there : AreFound (last_named name places) (option_map tree_spot (get name es)) =
        found_tree (last_named name places) (get name es) (stand name) in
        subst (λ q. AreFound q (option_map tree_spot (get name es))) same there
    in_table c are n (array ts) d k = absurd (false≢true (sym no_array ∙ k))
    in_table c are n (int_vector ns) d k = absurd (false≢true (sym no_vector ∙ k))
    in_table c are n (string x) d k = absurd (false≢true (sym k.0 ∙ is_table))
    in_table c are n (alias x) d k = absurd (false≢true (sym k.0 ∙ is_table))
    in_table c are n (binary x) d k = absurd (false≢true (sym k.0 ∙ is_table))
    in_table c are n (integer x) d k = absurd (false≢true (sym k.0 ∙ is_table))

    no_table : entries_at p ≡ None → (n : ℕ) (t : Tree) → DenPlace p t n → IsTypeOf t type → ⊥
    no_table none n (table es) d k = none_some none (entries_stand_inside p es n d).1
    no_table none n (array ts) d k = false≢true (sym no_array ∙ k)
    no_table none n (int_vector ns) d k = false≢true (sym no_vector ∙ k)
    no_table none n (string x) d k = false≢true (sym k.0 ∙ is_table)
    no_table none n (alias x) d k = false≢true (sym k.0 ∙ is_table)
    no_table none n (binary x) d k = false≢true (sym k.0 ∙ is_table)
    no_table none n (integer x) d k = false≢true (sym k.0 ∙ is_table)

    -- what is answered of an entry is so in the tree
    pub entry_answers : (r : Result (Option Cursor) ReadingError)
        → MatchResult r
        (λ c. option_map (last_named name) (entries_at p) ≡ Some (option_map place_of c))
        (λ e. (entries_at p ≡ None) × Says (entries_refusal p 1) e)
        → (s : Spot) → IsAt p s
        → MatchResult r (λ c. AreFound (option_map place_of c) (found_inside s name)) (λ e. ⊥)
    entry_answers (Ok c) h (tree_spot t) (n, d) =
        in_table (option_map place_of c) h n t d (of_type t n d)
    entry_answers (Ok c) h (number_spot m) is = absurd (no_number p m type is told)
    entry_answers (Err e) h (tree_spot t) (n, d) = no_table h.0 n t d (of_type t n d)
    entry_answers (Err e) h (number_spot m) is = no_number p m type is told

  module _ (has_members : (types.is_array type || type == type_number kind.IntVector) ≡ true)
      (no_table_type : types.is_table type ≡ false) (name : List ℕ) where
    -- a type that has members is none without
    apart : HasNoMembers type → ⊥
    apart k =
        false≢true (sym (ap (λ b. b || type == type_number kind.IntVector) k.1 ∙ k.2) ∙ has_members)

    in_list : (k : ℕ) → number_said name ≡ Some k → (c : Option Place)
        → option_map (λ (ps : List Place). slice_get ps k) (members_at p) ≡ Some c
        → (n : ℕ) (t : Tree) → DenPlace p t n → IsTypeOf t type
        → AreFound c (found_inside (tree_spot t) name)
    in_list k said c are n (array ts) d kind =
        let (places, is, stand) = members_stand_inside p ts n d in
        let same : slice_get places k ≡ c =
        same_Some _ _ (sym (ap (option_map (λ (ps : List Place). slice_get ps k)) is) ∙ are) in
        let tree : member_said ts name ≡ slice_get (array_members ts) k =
        ap (option_and_then (slice_get (array_members ts))) said in
        let there : AreFound (slice_get places k) (option_map tree_spot (member_said ts name)) =
        rw tree (found_tree (slice_get places k) (slice_get (array_members ts) k) (stand k)) in
        subst (λ q. AreFound q (option_map tree_spot (member_said ts name))) same there
    in_list k said c are n (int_vector ns) d kind =
        let is = numbers_stand_inside p ns n d in
        let same : option_map (at_spot p.parts) (option_map spot.Word (slice_get ns k)) ≡ c =
        sym (slice_get-map (at_spot p.parts) (map spot.Word ns) k
        ∙ ap (option_map (at_spot p.parts)) (slice_get-map spot.Word ns k))
        ∙ same_Some _ _ (sym (ap (option_map (λ (ps : List Place). slice_get ps k)) is) ∙ are) in
        let number : element_said ns name ≡ slice_get ns k =
        ap (option_and_then (slice_get ns)) said in
        subst (λ q. AreFound q (option_map number_spot (element_said ns name))) same
        (rw number (found_number p.parts (slice_get ns k)))
    in_list k said c are n (table es) d kind = absurd (false≢true (sym no_table_type ∙ kind))
    in_list k said c are n (string x) d kind = absurd (apart kind)
    in_list k said c are n (alias x) d kind = absurd (apart kind)
    in_list k said c are n (binary x) d kind = absurd (apart kind)
    in_list k said c are n (integer x) d kind = absurd (apart kind)

    no_list : members_at p ≡ None → (n : ℕ) (t : Tree) → DenPlace p t n → IsTypeOf t type → ⊥
    no_list none n (array ts) d kind = none_some none (members_stand_inside p ts n d).1
    no_list none n (int_vector ns) d kind = none_some none (numbers_stand_inside p ns n d)
    no_list none n (table es) d kind = false≢true (sym no_table_type ∙ kind)
    no_list none n (string x) d kind = apart kind
    no_list none n (alias x) d kind = apart kind
    no_list none n (binary x) d kind = apart kind
    no_list none n (integer x) d kind = apart kind

    -- what is answered of a member is so in the tree
    pub member_answers : (k : ℕ) → number_said name ≡ Some k
        → (r : Result (Option Cursor) ReadingError)
        → MatchResult r (λ c. option_map (λ (ps : List Place). slice_get ps k) (members_at p)
        ≡ Some (option_map place_of c))
        (λ e. (members_at p ≡ None) × Says (members_refusal p 1) e)
        → (s : Spot) → IsAt p s
        → MatchResult r (λ c. AreFound (option_map place_of c) (found_inside s name)) (λ e. ⊥)
    member_answers k said (Ok c) h (tree_spot t) (n, d) =
        in_list k said (option_map place_of c) h n t d (of_type t n d)
    member_answers k said (Ok c) h (number_spot m) is = absurd (no_number p m type is told)
    member_answers k said (Err e) h (tree_spot t) (n, d) = no_list h.0 n t d (of_type t n d)
    member_answers k said (Err e) h (number_spot m) is = no_number p m type is told

    -- a list that can't be read is that of no tree
    pub unread_list : members_at p ≡ None → (s : Spot) → IsAt p s → ⊥
    unread_list none (tree_spot t) (n, d) = no_list none n t d (of_type t n d)
    unread_list none (number_spot m) is = no_number p m type is told

    unsaid : number_said name ≡ None → (n : ℕ) (t : Tree) → DenPlace p t n → IsTypeOf t type
        → AreFound None (found_inside (tree_spot t) name)
    unsaid said n (array ts) d kind =
        rw (ap (option_and_then (slice_get (array_members ts))) said) tt
    unsaid said n (int_vector ns) d kind =
        rw (ap (option_and_then (slice_get ns)) said) tt
    unsaid said n (table es) d kind = absurd (false≢true (sym no_table_type ∙ kind))
    unsaid said n (string x) d kind = tt
    unsaid said n (alias x) d kind = tt
    unsaid said n (binary x) d kind = tt
    unsaid said n (integer x) d kind = tt

    -- a name that says no number leads to no member
    pub no_number_said : number_said name ≡ None → (s : Spot) → IsAt p s
        → AreFound None (found_inside s name)
    no_number_said said (tree_spot t) (n, d) = unsaid said n t d (of_type t n d)
    no_number_said said (number_spot m) is = tt

  module _ (leaf : HasNoMembers type) (name : List ℕ) where
    no_members : (n : ℕ) (t : Tree) → DenPlace p t n → IsTypeOf t type
        → AreFound None (found_inside (tree_spot t) name)
    no_members n (array ts) d kind = absurd (false≢true (sym leaf.1 ∙ kind))
    no_members n (int_vector ns) d kind = absurd (false≢true (sym leaf.2 ∙ kind))
    no_members n (table es) d kind = absurd (false≢true (sym leaf.0 ∙ kind))
    no_members n (string x) d kind = tt
    no_members n (alias x) d kind = tt
    no_members n (binary x) d kind = tt
    no_members n (integer x) d kind = tt

    -- nothing stands inside what has no members
    pub nothing_inside : (s : Spot) → IsAt p s → AreFound None (found_inside s name)
    nothing_inside (tree_spot t) (n, d) = no_members n t d (of_type t n d)
    nothing_inside (number_spot m) is = tt

-- nothing stands inside a number
pub word_is_number : (p : Place) (name : List ℕ) → IsWordSpot p.at → (s : Spot) → IsAt p s
    → AreFound None (found_inside s name)
word_is_number p name h (tree_spot t) (n, d) = absurd (by p.at h d)
  where
    by : (s : cursor.Spot) → IsWordSpot s → DenSpot p.parts s t n → ⊥
    by (spot.Word m) h d = d
    by (spot.Descriptor m) h d = h
    by (spot.Unit m) h d = h
    by (spot.Key m) h d = h
word_is_number p name h (number_spot m) is = tt

-- a place without a type is that of no tree
pub untyped : (p : Place) → (IsWordSpot p.at → ⊥) → type_at p ≡ None → (s : Spot) → IsAt p s → ⊥
untyped p other none (tree_spot t) (n, d) = none_some none (types_tell_trees p t n d).1
untyped p other none (number_spot m) is = other (subst IsWordSpot (sym is) tt)

-- what was found is there in the tree
there_in_tree : (p : Place) (o : Option Spot) → AreFound (Some p) o
    → (s : Spot) × IsAt p s × (o ≡ Some s)
there_in_tree p (Some s) h = (s, h, refl)
there_in_tree p None h = absurd h

-- a step in the file goes where the one in the tree goes
pub goes_on : (p : Place) (c : Option Place) (s : Spot) (name : List ℕ) (names : List (List ℕ))
    (whole : Option Spot) → c ≡ Some p → AreFound c (found_inside s name)
    → found_at s (name ∷ names) ≡ whole
    → (x : Spot) × IsAt p x × (found_at x names ≡ whole)
goes_on p c s name names whole is h e =
    let (x, at, said) = there_in_tree p (found_inside s name)
    (subst (λ q. AreFound q (found_inside s name)) is h) in
    (x, at, sym (ap (option_and_then (λ t. found_at t names)) said) ∙ e)

-- a place that shows no number is no number's
pub no_number_here : {X : Type 0} (P : X → Type 0) (s : cursor.Spot) (o : Option X)
    → MatchOption o (IsWordSpot s → ⊥) P → is_some o ≡ false → IsWordSpot s → ⊥
no_number_here P s None h none = h
no_number_here P s (Some x) h none = absurd (false≢true (sym none))
