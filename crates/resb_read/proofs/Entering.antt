-- Entries read one by one.
use Rattle.std.proofs.Common.{ℕ, List, [], ◌∷◌, ◌++◌, ◌≡◌, ◌+◌, ◌≤◌, refl, sym, ◌∙◌, ap, subst}
use Rattle.std.proofs.Common.{arith, append_assoc, Ok, Err, Some, None}
use Rattle.std.specs.BTreeMap.{insert_entry}
use Rattle.std.specs.declared.cmp.Ordering.{Ordering}
use Rattle.resb_read.specs.Places.{Place}
use Rattle.resb_read.specs.Sequences.{CountsEach, ReadsEntry, CountsEntry, put_each}
use Rattle.resb_read.specs.Reading.{LacksOrMemory}
use Rattle.resb_read.specs.RefusedReadings.{RefusesKeyOrValue, RefusesOne}
use Rattle.resb_read.specs.Access.{EntryAccess, StepsReading}
use Rattle.resb_read.proofs.Each.{reads_each_more, each_refused, steps_some, steps_err}
use Rattle.resb_read.specs.Inner.Front.{FrontEntries}
use Rattle.resb_read.specs.TypeLaws.{each_counted, entry_counted, entry_one}
use Rattle.resb_format.specs.declared.error.ReadingError.{ReadingError}

pub put_more : {K X : Type 0} (cmp : K → K → Ordering) (m es : List (K × X)) (e : K × X)
    → put_each cmp m (es ++ e ∷ []) ≡ insert_entry cmp (put_each cmp m es) e.0 e.1
put_more cmp m [] e = refl
put_more cmp m (x ∷ es) e = put_more cmp (insert_entry cmp m x.0 x.1) es e

module _ {K X : Type 0} (rk : Place → K → ℕ → Type 0) (ck : Place → ℕ → Type 0)
    (fk : Place → ℕ → ℕ → ReadingError → Type 0) (rv : Place → X → ℕ → Type 0)
    (cv : Place → ℕ → Type 0) (fv : Place → ℕ → ℕ → ReadingError → Type 0) where
  module _ (cmp : K → K → Ordering) (all : List (Place × Place)) (old : EntryAccess)
      (m : List (K × X))
      (before left : ℕ) (new : EntryAccess) (left' : ℕ) (ok : old.failed ≡ None)
      (f : FrontEntries cmp rk rv all old.rest m before left) where
    pub front_enters : (k : K) (x : X)
        → StepsReading (ReadsEntry rk rv) (CountsEntry ck cv) (RefusesKeyOrValue ck fk cv fv) old
        left new left' (Ok (Some (k, x)))
        → (new.failed ≡ None)
        × FrontEntries cmp rk rv all new.rest (insert_entry cmp m k x) before left'
    front_enters k x h =
        let (p, first, none', taken) = steps_some (ReadsEntry rk rv) (CountsEntry ck cv)
        (RefusesKeyOrValue ck fk cv fv) old left new left' (k, x) ok h in
        let s : left' + taken.0 ≡ left = taken.2 in
        let paid : left + f.spent ≡ before = f.paid in (
          none',
          record {
            done = f.done ++ p ∷ [];
            read = f.read ++ (k, x) ∷ [];
            spent = f.spent + taken.0;
            are = f.are ∙ ap (λ r. f.done ++ r) first ∙ sym (append_assoc f.done (p ∷ []) new.rest);
            each = reads_each_more (ReadsEntry rk rv) f.done f.read f.spent p (k, x) taken.0 f.each
                taken.1;
            map = ap (λ m. insert_entry cmp m k x) f.map ∙ sym (put_more cmp [] f.read (k, x));
            paid = omega arith;
          },
        )

    pub front_fails : (hk : (p : Place) (v : K) (n : ℕ) → rk p v n → ck p n)
        (hv : (p : Place) (v : X) (n : ℕ) → rv p v n → cv p n)
        (one_k : (p : Place) (m n : ℕ) → ck p m → ck p n → m ≡ n)
        (one_v : (p : Place) (m n : ℕ) → cv p m → cv p n → m ≡ n) (d : ReadingError)
        → StepsReading (ReadsEntry rk rv) (CountsEntry ck cv) (RefusesKeyOrValue ck fk cv fv) old
        left new left' (Err d)
        → (left' ≤ before) × LacksOrMemory (CountsEach (CountsEntry ck cv) all) before d
        × RefusesOne (CountsEntry ck cv) (RefusesKeyOrValue ck fk cv fv) all before left' d
    front_fails hk hv one_k one_v d h =
        let (p, ps, first, r) = steps_err (ReadsEntry rk rv) (CountsEntry ck cv)
        (RefusesKeyOrValue ck fk cv fv) old left new left' d ok h in
        let s : left' ≤ left = r.0 in
        let paid : left + f.spent ≡ before = f.paid in
        let counted = each_counted (ReadsEntry rk rv) (CountsEntry ck cv)
        (entry_counted rk rv ck cv hk hv) f.done f.read f.spent f.each in
        let same : all ≡ f.done ++ p ∷ ps = f.are ∙ ap (λ r. f.done ++ r) first in (
          omega arith,
          subst (λ qs. LacksOrMemory (CountsEach (CountsEntry ck cv) qs) before d) (sym same)
              (each_refused (CountsEntry ck cv) (entry_one ck cv one_k one_v) f.done p ps f.spent
              before left d paid counted r.1),
          record {
            done = f.done;
            at = p;
            after = ps;
            spent = f.spent;
            here = left;
            are = same;
            counted = counted;
            paid = paid;
            refused = r.2;
          },
        )
