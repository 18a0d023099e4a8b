-- Members read one by one.
use Rattle.std.proofs.Common.{ℕ, List, [], ◌∷◌, ◌++◌, ◌≡◌, ◌+◌, ◌≤◌, refl, sym, ◌∙◌, ap, subst}
use Rattle.std.proofs.Common.{arith, inl, inr, append_assoc, Ok, Err, Some, None}
use Rattle.resb_read.specs.Places.{Place}
use Rattle.resb_read.specs.Sequences.{ReadsEach, CountsEach}
use Rattle.resb_read.specs.Reading.{LacksOrMemory}
use Rattle.resb_read.specs.RefusedReadings.{RefusesThere, RefusesOne}
use Rattle.resb_format.specs.declared.error.ReadingError.{ReadingError}
use Rattle.resb_read.specs.Inner.Front.{Front}
use Rattle.resb_read.specs.TypeLaws.{each_counted}
use Rattle.resb_read.specs.Access.{AccessOver, Access, StepsOver, StepsAfter, StepsReading}
use Rattle.resb_read.specs.Access.{TakesRead}

module _ {P X : Type 0} (reads : P → X → ℕ → Type 0) where
  -- one more place and its value, at the end
  pub reads_each_more : (ps : List P) (xs : List X) (k : ℕ) (p : P) (x : X) (n : ℕ)
      → ReadsEach reads ps xs k → reads p x n
      → ReadsEach reads (ps ++ p ∷ []) (xs ++ x ∷ []) (k + n)
  reads_each_more [] [] k p x n h r = (n, 0, r, refl, omega arith)
  reads_each_more [] (y ∷ xs) k p x n h r = absurd h
  reads_each_more (q ∷ ps) [] k p x n h r = absurd h
  reads_each_more (q ∷ ps) (y ∷ xs) k p x n (a, b, first, rest, e) r =
      (a, b + n, first, reads_each_more ps xs b p x n rest r, omega arith)

module _ {P : Type 0} (counts : P → ℕ → Type 0)
    (one : (p : P) (m n : ℕ) → counts p m → counts p n → m ≡ n) where
  -- the counts of a list whose front is known
  pub each_split : (ps : List P) (p : P) (rest : List P) (k n : ℕ)
      → CountsEach counts ps k → CountsEach counts (ps ++ p ∷ rest) n
      → (a : ℕ) × counts p a × (k + a ≤ n)
  each_split [] p rest k n h (a, b, c, _, e) = (a, c, omega arith)
  each_split (q ∷ ps) p rest k n (a, b, c, d, e) (a', b', c', d', e') =
      let same : a ≡ a' = one q a a' c c' in
      let later = each_split ps p rest b b' d d' in
      let le : b + later.0 ≤ b' = later.2 in
      (later.0, later.1, omega arith)

  -- what is refused at one member is refused of all
  pub each_refused : (ps : List P) (p : P) (rest : List P) (k left now : ℕ)
      (e : ReadingError)
      → now + k ≡ left → CountsEach counts ps k → LacksOrMemory (counts p) now e
      → LacksOrMemory (CountsEach counts (ps ++ p ∷ rest)) left e
  each_refused ps p rest k left now e sum h (inl m) = inl m
  each_refused ps p rest k left now e sum h (inr none) =
      inr (λ n all fits. let at = each_split ps p rest k n h all in let le : k + at.0 ≤ n = at.2 in
      none at.0 at.1 (omega arith))

module _ {P X : Type 0} (reads : P → X → ℕ → Type 0) (counts : P → ℕ → Type 0)
    (refuses : P → ℕ → ℕ → ReadingError → Type 0) where
  pub over_some : (rest : List P) (left : ℕ) (new : AccessOver P) (left' : ℕ) (x : X)
      → StepsOver (TakesRead reads) (RefusesThere counts refuses) rest left new left' (Ok (Some x))
      → (p : P) × (rest ≡ p ∷ new.rest) × (new.failed ≡ None) × TakesRead reads p x left left'
  over_some [] left new left' x h = absurd h
  over_some (p ∷ ps) left new left' x (e, taken) =
      (p, ap (λ a. p ∷ a.rest) (sym e), ap (λ a. a.failed) e, taken)

  pub over_err : (rest : List P) (left : ℕ) (new : AccessOver P) (left' : ℕ) (d : ReadingError)
      → StepsOver (TakesRead reads) (RefusesThere counts refuses) rest left new left' (Err d)
      → (p : P) × (ps : List P) × (rest ≡ p ∷ ps)
      × RefusesThere counts refuses p left left' d
  over_err [] left new left' d h = absurd h
  over_err (p ∷ ps) left new left' d (e, r) = (p, ps, refl, r)

  pub steps_some : (old : AccessOver P) (left : ℕ) (new : AccessOver P) (left' : ℕ) (x : X)
      → old.failed ≡ None
      → StepsReading reads counts refuses old left new left' (Ok (Some x))
      → (p : P) × (old.rest ≡ p ∷ new.rest) × (new.failed ≡ None) × TakesRead reads p x left left'
  steps_some old left new left' x none h =
      over_some old.rest left new left' x
      (subst (λ f. StepsAfter (TakesRead reads) (RefusesThere counts refuses) f old left new left'
      (Ok (Some x))) none h)

  pub steps_err : (old : AccessOver P) (left : ℕ) (new : AccessOver P) (left' : ℕ)
      (d : ReadingError)
      → old.failed ≡ None → StepsReading reads counts refuses old left new left' (Err d)
      → (p : P) × (ps : List P) × (old.rest ≡ p ∷ ps)
      × RefusesThere counts refuses p left left' d
  steps_err old left new left' d none h =
      over_err old.rest left new left' d
      (subst (λ f. StepsAfter (TakesRead reads) (RefusesThere counts refuses) f old left new left'
      (Err d)) none h)

module _ {X : Type 0} (reads : Place → X → ℕ → Type 0) (counts : Place → ℕ → Type 0)
    (refuses : Place → ℕ → ℕ → ReadingError → Type 0) where
  pub front_more : (all : List Place) (old : Access) (values : List X) (before left : ℕ)
      (new : Access) (left' : ℕ) (x : X)
      → old.failed ≡ None → Front reads all old.rest values before left
      → StepsReading reads counts refuses old left new left' (Ok (Some x))
      → (new.failed ≡ None) × Front reads all new.rest (values ++ x ∷ []) before left'
  front_more all old values before left new left' x none f h =
      let step = steps_some reads counts refuses old left new left' x none h in
      let (p, first, none', taken) = step in
      let s : left' + taken.0 ≡ left = taken.2 in
      let paid : left + f.spent ≡ before = f.paid in (
        none',
        record {
          done = f.done ++ p ∷ [];
          spent = f.spent + taken.0;
          are = f.are ∙ ap (λ r. f.done ++ r) first
              ∙ sym (append_assoc f.done (p ∷ []) new.rest);
          each = reads_each_more reads f.done values f.spent p x taken.0 f.each taken.1;
          paid = omega arith;
        },
      )

module _ {X : Type 0} (reads : Place → X → ℕ → Type 0) (counts : Place → ℕ → Type 0)
    (refuses : Place → ℕ → ℕ → ReadingError → Type 0)
    (counted : (p : Place) (v : X) (n : ℕ) → reads p v n → counts p n)
    (one : (p : Place) (m n : ℕ) → counts p m → counts p n → m ≡ n) where
  pub front_refused : (all : List Place) (old : Access) (values : List X) (before left : ℕ)
      (new : Access) (left' : ℕ) (d : ReadingError)
      → old.failed ≡ None → Front reads all old.rest values before left
      → StepsReading reads counts refuses old left new left' (Err d)
      → (left' ≤ before) × LacksOrMemory (CountsEach counts all) before d
      × RefusesOne counts (RefusesThere counts refuses) all before left' d
  front_refused all old values before left new left' d none f h =
      let (p, ps, first, r) = steps_err reads counts refuses old left new left' d none h in
      let s : left' ≤ left = r.0 in
      let paid : left + f.spent ≡ before = f.paid in
      let same : all ≡ f.done ++ p ∷ ps = f.are ∙ ap (λ r. f.done ++ r) first in (
        omega arith,
        subst (λ qs. LacksOrMemory (CountsEach counts qs) before d) (sym same)
            (each_refused counts one f.done p ps f.spent before left d paid
            (each_counted reads counts counted f.done values f.spent f.each) r.1),
        record {
          done = f.done;
          at = p;
          after = ps;
          spent = f.spent;
          here = left;
          are = same;
          counted = each_counted reads counts counted f.done values f.spent f.each;
          paid = paid;
          refused = r;
        },
      )
