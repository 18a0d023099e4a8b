-- From one entry of a table to the next.
use Rattle.std.proofs.Common.{ℕ, List, [], ◌∷◌, ◌≡◌, ◌+◌, ◌≤◌, Some, None, Ok, refl, sym, ◌∙◌, ap}
use Rattle.std.proofs.Common.{subst, inl, inr, arith, length}
use Rattle.std.specs.Prelude.{codes, Result, Err}
use Rattle.std.specs.Result.{IfErr}
use Rattle.resb_format.specs.declared.error.ReadingError.{ReadingError}
use Rattle.resb_read.specs.Places.{Place, place_of}
use Rattle.resb_read.specs.Leaves.{CountsOf, ReadsKey}
use Rattle.resb_read.specs.Reading.{Lacks, LacksOrMemory}
use Rattle.resb_read.specs.Access.{EntryAccess, EntersTo, StepsOver, StepsAfter, HandsOnBoth}
use Rattle.resb_read.specs.Access.{RefusesNone}
use Rattle.resb_read.specs.Sequences.{entries_at}
use Rattle.resb_read.specs.declared.cursor.Cursor.{Cursor}
use Rattle.resb_read_rows.specs.Fields.{Entry, CountsField, CountsFirst, CountsBoth}
use Rattle.resb_read_rows.specs.FieldLaws.{field_one}

same_pair : {A B : Type 0} (p : A × B) (x : A) (y : B) → x ≡ p.0 → y ≡ p.1 → p ≡ (x, y)
same_pair p x y a b = rw (a, b) refl

-- the first of the entries is stepped over
pub first_is_entered : (rest : List Entry) (new : EntryAccess) (k v : Cursor)
    → StepsOver HandsOnBoth RefusesNone rest 0 new 0 (Ok (Some (k, v)))
    → (rest ≡ (place_of k, place_of v) ∷ new.rest) × (new.failed ≡ None)
first_is_entered [] new k v h = absurd h
first_is_entered (p ∷ ps) new k v (e, at) =
    let later : ps ≡ new.rest = ap (λ s. s.rest) (sym e) in
    let same = same_pair p (place_of k) (place_of v) at.0 at.1 in
    (ap (λ q. q ∷ ps) same ∙ ap (λ r. (place_of k, place_of v) ∷ r) later, ap (λ s. s.failed) e)

pub first_entered_after : (old new : EntryAccess) (k v : Cursor) → old.failed ≡ None
    → EntersTo old new (Ok (Some (k, v)))
    → (old.rest ≡ (place_of k, place_of v) ∷ new.rest) × (new.failed ≡ None)
first_entered_after old new k v none h =
    first_is_entered old.rest new k v
    (subst (λ f. StepsAfter HandsOnBoth RefusesNone f old 0 new 0 (Ok (Some (k, v)))) none h)

-- whatever is refused, where this is so of each error
pub each_error : {X E : Type 0} {P : E → Type 0} → ((e : E) → P e) → (r : Result X E) → IfErr r P
each_error h (Ok x) = tt
each_error h (Err e) = h e

-- where no key that can be paid for stands first, no such field does
pub no_first_field : (name : List ℕ) (counts : Place → ℕ → Type 0) (k v : Place)
    (es rest : List Entry) (left : ℕ) → rest ≡ (k, v) ∷ es → Lacks (CountsOf ReadsKey k) left
    → Lacks (CountsFirst name counts rest) left
no_first_field name counts k v es rest left e lacks =
    subst (λ r. Lacks (CountsFirst name counts r) left) (sym e)
    (λ n (a, b, key, x, s) within. lacks a (name, key) (omega (arith, s, within)))

module _ (ci cv : Place → ℕ → Type 0) (p : Place) (left left1 : ℕ) (paid : left1 + 1 ≡ left)
    (e : ReadingError) where
  -- what is refused at the first field is refused of both
  pub refused_i : (rest : List Entry) → entries_at p ≡ Some rest
      → LacksOrMemory (CountsFirst (codes "i") ci rest) left1 e
      → LacksOrMemory (CountsBoth ci cv p) left e
  refused_i rest are (inl m) = inl m
  refused_i rest are (inr lacks) =
      inr (λ n h fits. (
      let g = sym h.are ∙ are in
      let same : h.at_i ∷ h.at_v ∷ [] ≡ rest = cc in
      lacks h.of_i (subst (λ r. CountsFirst (codes "i") ci r h.of_i) same h.read_i)
      (omega (arith, h.count))))

  -- what is refused at the second field is refused of both
  pub refused_v : (one : (p : Place) (m n : ℕ) → ci p m → ci p n → m ≡ n) (f : Entry)
      (rest : List Entry) (a left2 : ℕ)
      → entries_at p ≡ Some (f ∷ rest) → CountsField (codes "i") ci f a → left2 + a ≡ left1
      → LacksOrMemory (CountsFirst (codes "v") cv rest) left2 e
      → LacksOrMemory (CountsBoth ci cv p) left e
  refused_v one f rest a left2 are first paid2 (inl m) = inl m
  refused_v one f rest a left2 are first paid2 (inr lacks) =
      inr (λ n h fits. (
      let g = sym h.are ∙ are in
      let same : h.at_i ≡ f = cc in
      let later : h.at_v ∷ [] ≡ rest = cc in
      let count : h.of_i ≡ a = field_one ci one (codes "i") h.at_i f h.of_i a same h.read_i first in
      lacks h.of_v (subst (λ r. CountsFirst (codes "v") cv r h.of_v) later h.read_v)
      (omega (arith, h.count))))

-- no entries are left
pub no_entry_left : (rest : List Entry) → length rest ≤ 0 → rest ≡ []
no_entry_left [] h = refl
no_entry_left (x ∷ xs) h = absurd (omega (arith, h))
