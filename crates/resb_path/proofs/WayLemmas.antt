-- Where a step of a path leads by the bytes alone, and why it fails.
use Rattle.std.proofs.Common.{◌≡◌, ℕ, Bool, true, false, List, [], ◌∷◌, Option, Some, None, refl}
use Rattle.std.proofs.Common.{◌<◌, arith, length, sym, ap, subst, ◌∙◌, inl, inr, Result, Ok, Err}
use Rattle.std.proofs.Common.{slice_get}
use Rattle.std.specs.Prelude.{◌==◌, ◌||◌, ◌≢◌, option_map, MatchResult, if◌then◌else◌}
use Rattle.std.specs.Option.{option_and_then}
use Rattle.std.proofs.lemmas.Bool.{false≢true}
use Rattle.std.proofs.lemmas.Option.{same_Some}
use Rattle.resb_format.specs.Types as types
use Rattle.resb_format.specs.Descriptor.{type_number}
use Rattle.resb_format.specs.declared.repr_type.ResourceReprType.TheVariants as kind
use Rattle.resb_format.specs.declared.error.ReadingError.{ReadingError}
use Rattle.resb_walk.specs.BlockRefusals.{Says}
use Rattle.resb_read.specs.Places.{Place, place_of}
use Rattle.resb_read.specs.PlaceRefusals.{entries_refusal, members_refusal}
use Rattle.resb_read.specs.Sequences.{entries_at, members_at}
use Rattle.resb_read.specs.Spots.{type_at, type_from, IsWordSpot}
use Rattle.resb_read.specs.Tables.{last_named}
use Rattle.resb_read.specs.declared.cursor.Cursor.{Cursor}
use Rattle.resb_read.specs.declared.cursor.Spot as cursor
use Rattle.resb_read.specs.declared.cursor.Spot.TheVariants as spot
use Rattle.resb_path.specs.Finding.{number_said}
use Rattle.resb_path.specs.InFiles.{inside_type, place_inside, place_at, LeadsIn, FailsAt}
use Rattle.resb_path.specs.InFiles.{FailsOnWay, Holds, HoldsOnWay, OneAnswerOfAPath}
use Rattle.resb_path.proofs.StepLemmas.{none_some, table_apart}

-- what is found in something that is there
found_there : {A B : Type 0} (f : A → Option B) (o : Option A) (x : Option B)
    → option_map f o ≡ Some x → x ≡ option_and_then f o
found_there f (Some a) x h = sym (same_Some _ _ h)
found_there f None x h = absurd (none_is_some h)
  where
    IsNone : {A : Type 0} → Option A → Type 0
    IsNone None = Unit {0}
    IsNone (Some y) = ⊥

    none_is_some : {A : Type 0} {y : A} → None ≡ Some y → ⊥
    none_is_some e = subst IsNone e tt

if_is : {A : Type 0} (b : Bool) (x y : A) → b ≡ true → (if b then x else y) ≡ x
if_is true x y h = refl
if_is false x y h = absurd (false≢true h)

if_not : {A : Type 0} (b : Bool) (x y : A) → b ≡ false → (if b then x else y) ≡ y
if_not false x y h = refl
if_not true x y h = absurd (false≢true (sym h))

no_type : (p : Place) (s : cursor.Spot) → IsWordSpot s → type_from p.parts s ≡ None
no_type p (spot.Word m) h = refl
no_type p (spot.Descriptor m) h = absurd h
no_type p (spot.Unit m) h = absurd h
no_type p (spot.Key m) h = absurd h

-- what is found in something is found in it
is_there : {A B : Type 0} (f : A → B) (o : Option A) (x : B) → option_map f o ≡ Some x → o ≢ None
is_there f o x h none = none_some (ap (option_map f) none) h

-- a table whose entries were found, and a list whose members were
module _ (p : Place) (type : ℕ) (told : type_at p ≡ Some type) where
  holds_table : types.is_table type ≡ true → entries_at p ≢ None → Holds p
  holds_table is there =
      inr (type, told, ((λ t. there), λ list. absurd (false≢true (sym no_list ∙ list))))
    where
      no_list : (types.is_array type || type == type_number kind.IntVector) ≡ false
      no_list = let apart = table_apart type is in
          ap (λ b. b || type == type_number kind.IntVector) apart.0 ∙ apart.1

  holds_list : types.is_table type ≡ false → members_at p ≢ None → Holds p
  holds_list no_table there =
      inr (type, told, ((λ t. absurd (false≢true (sym no_table ∙ t))), λ list. there))

  -- a place of another type
  pub holds_other : types.is_table type ≡ false
      → (types.is_array type || type == type_number kind.IntVector) ≡ false → Holds p
  holds_other no_table no_list =
      inr (
        type,
        told,
        (
          (λ t. absurd (false≢true (sym no_table ∙ t))),
          λ list. absurd (false≢true (sym no_list ∙ list)),
        ),
      )

-- nothing stands inside a number of a vector
pub nothing_in_number : (p : Place) (name : List ℕ) → IsWordSpot p.at
    → (None ≡ place_inside p name) × Holds p
nothing_in_number p name h = (
  sym (ap (option_and_then (λ type. inside_type type p name)) (no_type p p.at h)),
  inl h,
)

module _ (p : Place) (type : ℕ) (told : type_at p ≡ Some type) (name : List ℕ) where
  of_type : place_inside p name ≡ inside_type type p name
  of_type = ap (option_and_then (λ t. inside_type t p name)) told

  -- an entry stands where the answer says, or the table fails
  pub entry_leads : types.is_table type ≡ true → (r : Result (Option Cursor) ReadingError)
      → MatchResult r
      (λ c. option_map (last_named name) (entries_at p) ≡ Some (option_map place_of c))
      (λ e. (entries_at p ≡ None) × Says (entries_refusal p 1) e)
      → LeadsIn p name r
  entry_leads is (Ok c) h = (
    found_there (last_named name) (entries_at p) (option_map place_of c) h
        ∙ sym (of_type ∙ if_is (types.is_table type) _ _ is),
    holds_table p type told is (is_there (last_named name) (entries_at p) _ h),
  )
  entry_leads is (Err e) h = inr (type, told, inl (is, h.0, h.1))

  -- a member does, or the list fails
  pub member_leads : types.is_table type ≡ false
      → (types.is_array type || type == type_number kind.IntVector) ≡ true → (k : ℕ)
      → number_said name ≡ Some k → (r : Result (Option Cursor) ReadingError)
      → MatchResult r (λ c. option_map (λ (ps : List Place). slice_get ps k) (members_at p)
      ≡ Some (option_map place_of c))
      (λ e. (members_at p ≡ None) × Says (members_refusal p 1) e)
      → LeadsIn p name r
  member_leads no_table is k said (Ok c) h =
      let by : ℕ → Option Place = λ n. option_and_then (λ (ps : List Place). slice_get ps n)
      (members_at p) in (
        found_there (λ (ps : List Place). slice_get ps k) (members_at p) (option_map place_of c) h
            ∙ sym (of_type ∙ if_not (types.is_table type) _ _ no_table ∙ if_is _ _ None is
            ∙ ap (option_and_then by) said),
        holds_list p type told no_table
            (is_there (λ (ps : List Place). slice_get ps k) (members_at p) _ h),
      )
  member_leads no_table is k said (Err e) h = inr (type, told, inr (is, h.0, h.1))

  -- a name that says no number leads to no member of a list that can be read
  pub no_number_leads : types.is_table type ≡ false
      → (types.is_array type || type == type_number kind.IntVector) ≡ true → number_said name ≡ None
      → (k : ℕ) (found : Option Place)
      → option_map (λ (ps : List Place). slice_get ps k) (members_at p) ≡ Some found
      → (None ≡ place_inside p name) × Holds p
  no_number_leads no_table is said k found h =
      let by : ℕ → Option Place = λ n. option_and_then (λ (ps : List Place). slice_get ps n)
      (members_at p) in (
        sym (of_type ∙ if_not (types.is_table type) _ _ no_table ∙ if_is _ _ None is
            ∙ ap (option_and_then by) said),
        holds_list p type told no_table
            (is_there (λ (ps : List Place). slice_get ps k) (members_at p) found h),
      )

  -- nothing leads into what has no members
  pub nothing_leads : types.is_table type ≡ false
      → (types.is_array type || type == type_number kind.IntVector) ≡ false
      → (None ≡ place_inside p name) × Holds p
  nothing_leads no_table none = (
    sym (of_type ∙ if_not (types.is_table type) _ _ no_table ∙ if_not _ _ None none),
    holds_other p type told no_table none,
  )

-- a place that holds doesn't fail
holds_not_fails : (p : Place) (e : ReadingError) → Holds p → FailsAt p e → ⊥
holds_not_fails p e (inl word) (inl fails) = fails.0 word
holds_not_fails p e (inl word) (inr (type, told, inside)) =
    none_some (no_type p p.at word) told
holds_not_fails p e (inr (type, told, inside)) (inl fails) = none_some fails.1 told
holds_not_fails p e (inr (type, told, inside)) (inr (other, is, inl (table, none, says))) =
    inside.0 (subst (λ t. types.is_table t ≡ true) (same_Some _ _ (sym is ∙ told)) table) none
holds_not_fails p e (inr (type, told, inside)) (inr (other, is, inr (list, none, says))) =
    inside.1 (subst (λ t. (types.is_array t || t == type_number kind.IntVector) ≡ true)
    (same_Some _ _ (sym is ∙ told)) list) none

-- so it is on the whole way of a path
pub one_answer_of_a_path : OneAnswerOfAPath
one_answer_of_a_path p [] e holds fails = fails
one_answer_of_a_path p (name ∷ names) e holds (inl fails) = holds_not_fails p e holds.0 fails
one_answer_of_a_path p (name ∷ names) e holds (inr (q, is, fails)) =
    one_answer_of_a_path q names e (holds.1 q is) fails

-- a step further leads on, and fails on
pub way_on : (p q : Place) (name : List ℕ) (names : List (List ℕ))
    → Some q ≡ place_inside p name → place_at q names ≡ place_at p (name ∷ names)
way_on p q name names h = ap (option_and_then (λ r. place_at r names)) h

pub fails_on : (p q : Place) (name : List ℕ) (names : List (List ℕ)) (e : ReadingError)
    → Some q ≡ place_inside p name → FailsOnWay q names e → FailsOnWay p (name ∷ names) e
fails_on p q name names e h fails = inr (q, sym h, fails)

-- so do places that hold
pub holds_on : (p q : Place) (name : List ℕ) (names : List (List ℕ))
    → Some q ≡ place_inside p name → Holds p → HoldsOnWay q names → HoldsOnWay p (name ∷ names)
holds_on p q name names h here later = (
  here,
  λ r e. subst (λ s. HoldsOnWay s names) (same_Some _ _ (h ∙ e)) later,
)

-- a path that ends at a place that holds
pub holds_last : (p : Place) (name : List ℕ) (names : List (List ℕ))
    → None ≡ place_inside p name → Holds p → HoldsOnWay p (name ∷ names)
holds_last p name names none here = (here, λ q e. absurd (none_some (sym none) e))

pub fails_first : (p : Place) (names : List (List ℕ)) (e : ReadingError) → 0 < length names
    → FailsAt p e → FailsOnWay p names e
fails_first p [] e h fails = absurd (omega (arith, h))
fails_first p (name ∷ names) e h fails = inl fails
