-- Whatever is to blame, its path leads to a place, and a field that is named is one that the table
-- there lacks: for each type, from the same of its parts.
use Rattle.std.specs.Prelude.{◌≡◌, ◌⊎◌, ℕ, List, [], ◌∷◌, ◌++◌, Bool, true, false, Option, Some}
use Rattle.std.specs.Prelude.{None}
use Rattle.std.specs.Prelude.{length, slice_get, if◌then◌else◌}
use Rattle.std.proofs.Common.{refl, sym, ◌∙◌, ap, subst, inl, inr}
use Rattle.std.proofs.lemmas.Slice.Eq.{bytes_eq-Decides}
use Rattle.std.proofs.lemmas.Bool.{false≢true}
use Rattle.std.proofs.lemmas.Option.{same_Some, none-some}
use Rattle.resb_diff.specs.Differences.{Step, by_key, by_number}
use Rattle.resb_format.specs.declared.error.ReadingError.{ReadingError}
use Rattle.resb_fields.specs.Fields.{Entry, RefusesNext}
use Rattle.resb_read.specs.Places.{Place}
use Rattle.resb_read.specs.Sequences.{entries_at}
use Rattle.resb_read.specs.Tables.{is_text, has_name, key_of, last_from, last_named, IsNamed}
use Rattle.resb_read.specs.Tables.{HasEntry}
use Rattle.resb_blame.specs.Blamed.{Blamed, IsUnder, IsHere, StepsToKey, StepsToMember, StepsInto}
use Rattle.resb_blame.specs.Blamed.{Leads, Lacking, Points}
use Rattle.resb_blame.specs.Blames.{Blaming, BlamesWhole, BlamesOne, BlamesSeq, IsUnderKey}
use Rattle.resb_blame.specs.Blames.{BlamesEntry, BlamesMap}
use Rattle.resb_blame.specs.BlamedFields.{BlamingField, BlamingFields, BlamesRequired, BlamesFound}
use Rattle.resb_blame.specs.BlamedFields.{BlamesAt, BlamesMissing, BlamesNone}
use Rattle.resb_blame.specs.BlamedFields.{BlamesRecord}

-- the resource itself stands where no step leads
pub here_points : (p : Place) (b : Blamed) → IsHere b → Points p b
here_points p b (path, field) = (
  p,
  subst (λ steps. Leads p steps p) (sym path) refl,
  subst (λ f. Lacking p f b.error) (sym field) tt,
)

-- a step leads to a place, and the rest of the path from there
pub under_points : (p q : Place) (step : Step) (inner b : Blamed) → StepsInto p step q
    → Points q inner → IsUnder step inner b → Points p b
under_points p q step inner b into (end, leads, lacks) under =
    subst (Points p) (sym under) (end, (q, into, leads), lacks)

-- what each place blames points somewhere
abbrev pub Pointed : Blaming → Type 0
Pointed blames = (p : Place) (left left' : ℕ) (b : Blamed) → blames p left left' b → Points p b

-- a type that is to blame as a whole points to the place itself
pub whole_points : (counts : Place → ℕ → Type 0) (refuses : Place → ℕ → ℕ → ReadingError → Type 0)
    → Pointed (BlamesWhole counts refuses)
whole_points counts refuses p left left' b h = here_points p b h.0

-- the member behind those that are done has their number
number_of_next : (done : List Place) (at : Place) (after : List Place)
    → slice_get (done ++ at ∷ after) (length done) ≡ Some at
number_of_next [] at after = refl
number_of_next (q ∷ done) at after = number_of_next done at after

-- a list points to the place itself, or into the member that is to blame
pub seq_points : (counts : Place → ℕ → Type 0) (blames : Blaming) → Pointed blames
    → Pointed (BlamesSeq counts blames)
seq_points counts blames points p left left' b (inl h) = here_points p b h.0
seq_points counts blames points p left left' b (inr h) =
    let one = h.refused in
    let has = ap (λ ps. slice_get ps (length one.done)) one.are
    ∙ number_of_next one.done one.at one.after in
    let into : StepsToMember p (length one.done) one.at =
    record { members = h.places; are = h.are; has = has } in
    under_points p one.at (by_number (length one.done)) one.inner b into
    (points one.at one.here left' one.inner one.blamed) one.under

-- a map points to the place itself, or into the value that is to blame
pub map_points : (ck : Place → ℕ → Type 0) (fk : Place → ℕ → ℕ → ReadingError → Type 0)
    (cv : Place → ℕ → Type 0) (bv : Blaming) → Pointed bv → Pointed (BlamesMap ck fk cv bv)
map_points ck fk cv bv points p left left' b (inl h) = here_points p b h.0
map_points ck fk cv bv points p left left' b (inr h) = entry h.refused.refused
  where
    key : (inner : Blamed) → Points h.refused.at.1 inner → IsUnderKey h.refused.at inner b
        → Points p b
    key inner there (inl (name, named, under)) =
        let into : StepsToKey p name h.refused.at.1 = record {
          entries = h.places;
          are = h.are;
          has = record {
            before = h.refused.done;
            key = h.refused.at.0;
            after = h.refused.after;
            are = h.refused.are;
            named = named;
          };
        } in
        under_points p h.refused.at.1 (by_key name) inner b into there under
    key inner there (inr (none, here, same)) = here_points p b here

    entry : BlamesEntry ck fk cv bv h.refused.at h.refused.here left' b → Points p b
    entry (inl e) = here_points p b e.0
    entry (inr v) = key v.inner (points h.refused.at.1 v.here left' v.inner v.blamed) v.under

-- an entry's key that is tested to be a name is read as it
named_so : (name : List ℕ) (e : Entry) (o : Option (List ℕ × ℕ)) → key_of e ≡ o
    → is_text name o ≡ true → IsNamed name e
named_so name e (Some t) is h =
    let same : t.0 ≡ name = (bytes_eq-Decides t.0 name).0 h in
    (t.1, (tt, is ∙ ap (λ s. Some (s, t.1)) same))
named_so name e None is h = absurd (false≢true h)

has_more : (name : List ℕ) (e : Entry) (es : List Entry) (q : Place) → HasEntry name es q
    → HasEntry name (e ∷ es) q
has_more name e es q h =
    record {
      before = e ∷ h.before;
      key = h.key;
      after = h.after;
      are = ap (λ r. e ∷ r) h.are;
      named = h.named;
    }

-- what is found last was found before, or is an entry of the name
pub last_has : (name : List ℕ) (found : Option Place) (es : List Entry) (q : Place)
    → last_from name found es ≡ Some q → (found ≡ Some q) ⊎ HasEntry name es q
last_has name found [] q h = inl h
last_has name found (e ∷ es) q h =
    tested (has_name name e) refl (last_has name (Some e.1) es q) (last_has name found es q) h
  where
    first : (Some e.1 ≡ Some q) ⊎ HasEntry name es q → has_name name e ≡ true
        → HasEntry name (e ∷ es) q
    first (inl is) named =
        record {
          before = [];
          key = e.0;
          after = es;
          are = ap (λ v. (e.0, v) ∷ es) (same_Some _ _ is);
          named = named_so name e (key_of e) refl named;
        }
    first (inr has) named = has_more name e es q has

    later : (found ≡ Some q) ⊎ HasEntry name es q
        → (found ≡ Some q) ⊎ HasEntry name (e ∷ es) q
    later (inl is) = inl is
    later (inr has) = inr (has_more name e es q has)

    tested : (b : Bool) → has_name name e ≡ b
        → (last_from name (Some e.1) es ≡ Some q → (Some e.1 ≡ Some q) ⊎ HasEntry name es q)
        → (last_from name found es ≡ Some q → (found ≡ Some q) ⊎ HasEntry name es q)
        → last_from name (if b then Some e.1 else found) es ≡ Some q
        → (found ≡ Some q) ⊎ HasEntry name (e ∷ es) q
    tested true is now rest k = inr (first (now k) is)
    tested false is now rest k = later (rest k)

-- the step to the last entry of a name
key_step : (p : Place) (es : List Entry) (name : List ℕ) (q : Place) → entries_at p ≡ Some es
    → last_named name es ≡ Some q → StepsToKey p name q
key_step p es name q are is =
    record { entries = es; are = are; has = found (last_has name None es q is) }
  where
    found : (None ≡ Some q) ⊎ HasEntry name es q → HasEntry name es q
    found (inl none) = absurd (none-some q none)
    found (inr has) = has

-- what a field blames points somewhere from the table
abbrev pub PointedField : BlamingField → Type 0
PointedField blames =
    (p : Place) (es : List Entry) (name : List ℕ) (o : Option Place) (left left' : ℕ) (b : Blamed)
    → entries_at p ≡ Some es → last_named name es ≡ o → blames name o left left' b → Points p b

-- the same of fields
abbrev pub PointedFields : BlamingFields → Type 0
PointedFields blames =
    (p : Place) (es : List Entry) (names : List (List ℕ)) (left left' : ℕ) (b : Blamed)
    → entries_at p ≡ Some es → blames names es left left' b → Points p b

module _ (blames : Blaming) (points : Pointed blames) (p : Place) (es : List Entry)
    (name : List ℕ) (left left' : ℕ) (b : Blamed) (are : entries_at p ≡ Some es) where
  at_points : (q : Place) → last_named name es ≡ Some q → BlamesAt blames name q left left' b
      → Points p b
  at_points q is h =
      under_points p q (by_key name) h.inner b (key_step p es name q are is)
      (points q left left' h.inner h.blamed) h.under

  missing_points : last_named name es ≡ None → BlamesMissing name left left' b → Points p b
  missing_points is h = (
    p,
    subst (λ steps. Leads p steps p) (sym h.path) refl,
    subst (λ f. Lacking p f b.error) (sym h.field)
        (record { entries = es; are = are; none = is; says = h.says }),
  )

-- a field that has to be there points to the table that lacks it, or into its value
pub required_points : (blames : Blaming) → Pointed blames → PointedField (BlamesRequired blames)
required_points blames points p es name (Some q) left left' b are is h =
    at_points blames points p es name left left' b are q is h
required_points blames points p es name None left left' b are is h =
    missing_points blames points p es name left left' b are is h

-- a field that may be left out points into its value
pub found_points : (blames : Blaming) → Pointed blames → PointedField (BlamesFound blames)
found_points blames points p es name (Some q) left left' b are is h =
    at_points blames points p es name left left' b are q is h
found_points blames points p es name None left left' b are is h = absurd h

-- where no field is to blame, nothing is to show
pub points_none : PointedFields BlamesNone
points_none p es names left left' b are h = absurd h

-- a first field and the others point somewhere, where each of them does
pub points_next : (ca : Option Place → ℕ → Type 0) {fa : BlamingField} {fb : BlamingFields}
    → PointedField fa → PointedFields fb → PointedFields (RefusesNext ca fa fb)
points_next ca {fa} {fb} first later p es [] left left' b are h = absurd h
points_next ca {fa} {fb} first later p es (name ∷ names) left left' b are (inl h) =
    first p es name (last_named name es) left left' b are refl h
points_next ca {fa} {fb} first later p es (name ∷ names) left left' b are (inr h) =
    later p es names h.here left' b are h.refused

-- three fields and the others
pub points_three : (ca cb cc : Option Place → ℕ → Type 0) {fa fb fc : BlamingField}
    {fd : BlamingFields} → PointedField fa → PointedField fb → PointedField fc → PointedFields fd
    → PointedFields (RefusesNext ca fa (RefusesNext cb fb (RefusesNext cc fc fd)))
points_three ca cb cc a b c later = points_next ca a (points_next cb b (points_next cc c later))

-- a record points to the place itself, or where its fields do
pub record_points : (blames : BlamingFields) → PointedFields blames → (names : List (List ℕ))
    → Pointed (BlamesRecord blames names)
record_points blames points names p left left' b (inl h) = here_points p b h.0
record_points blames points names p left left' b (inr h) =
    points p h.places names h.inside left' b h.are h.refused
