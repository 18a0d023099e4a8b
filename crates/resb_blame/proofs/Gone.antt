-- What was gone through of members or entries, and one step more.
use Rattle.std.proofs.Common.{ℕ, List, [], ◌∷◌, ◌++◌, ◌≡◌, ◌+◌, refl, sym, ◌∙◌, ap, subst, arith}
use Rattle.std.proofs.Common.{Option, Some, None, Ok, Err, append_assoc, length}
use Rattle.std.proofs.lemmas.List.{append-nil}
use Rattle.resb_format.specs.declared.error.ReadingError.{ReadingError}
use Rattle.resb_read.specs.Access.{AccessOver, StepsOver, StepsAfter, StepsBy, RefusesNone}
use Rattle.resb_read.specs.Sequences.{CountsEach}

-- what was gone through is the front, has its count, and was paid
pub record Gone {P : Type 0} (counts : List P → ℕ → Type 0) (all rest : List P) (before left : ℕ)
    : Type 0 where
  pub done : List P
  pub spent : ℕ
  pub are : all ≡ done ++ rest
  pub counted : counts done spent
  pub paid : left + spent ≡ before

module _ {P X : Type 0} (takes : P → X → ℕ → ℕ → Type 0) where
  over_some : (rest : List P) (new : AccessOver P) (x : X)
      → StepsOver takes RefusesNone rest 0 new 0 (Ok (Some x))
      → (p : P) × (rest ≡ p ∷ new.rest) × (new.failed ≡ None) × takes p x 0 0
  over_some [] new x h = absurd h
  over_some (p ∷ ps) new x (e, taken) =
      (p, ap (λ a. p ∷ a.rest) (sym e), ap (λ a. a.failed) e, taken)

  over_none : (rest : List P) (new : AccessOver P)
      → StepsOver takes RefusesNone rest 0 new 0 (Ok None) → rest ≡ []
  over_none [] new h = refl
  over_none (p ∷ ps) new h = absurd h

  over_err : (rest : List P) (new : AccessOver P) (e : ReadingError)
      → StepsOver takes RefusesNone rest 0 new 0 (Err e) → ⊥
  over_err [] new e h = h
  over_err (p ∷ ps) new e h = h.1

  -- an access that has not failed hands on the first that is still to come
  pub steps_some : (old new : AccessOver P) (x : X) → old.failed ≡ None
      → StepsBy takes RefusesNone old 0 new 0 (Ok (Some x))
      → (p : P) × (old.rest ≡ p ∷ new.rest) × (new.failed ≡ None) × takes p x 0 0
  steps_some old new x none h =
      over_some old.rest new x
      (subst (λ f. StepsAfter takes RefusesNone f old 0 new 0 (Ok (Some x))) none h)

  -- or none is left
  pub steps_none : (old new : AccessOver P) → old.failed ≡ None
      → StepsBy takes RefusesNone old 0 new 0 (Ok None) → old.rest ≡ []
  steps_none old new none h =
      over_none old.rest new
      (subst (λ f. StepsAfter takes RefusesNone f old 0 new 0 (Ok None)) none h)

  -- and is not refused
  pub steps_err : (old new : AccessOver P) (e : ReadingError) → old.failed ≡ None
      → StepsBy takes RefusesNone old 0 new 0 (Err e) → ⊥
  steps_err old new e none h =
      over_err old.rest new e
      (subst (λ f. StepsAfter takes RefusesNone f old 0 new 0 (Err e)) none h)

-- one more place, at the end
pub counts_each_more : {P : Type 0} (counts : P → ℕ → Type 0) (ps : List P) (k : ℕ) (p : P) (n : ℕ)
    → CountsEach counts ps k → counts p n → CountsEach counts (ps ++ p ∷ []) (k + n)
counts_each_more counts [] k p n h r = (n, 0, r, refl, omega arith)
counts_each_more counts (q ∷ ps) k p n (a, b, first, rest, e) r =
    (a, b + n, first, counts_each_more counts ps b p n rest r, omega arith)

module _ {P : Type 0} (counts : List P → ℕ → Type 0) (one : P → ℕ → Type 0)
    (more : (ps : List P) (k : ℕ) (p : P) (n : ℕ) → counts ps k → one p n
    → counts (ps ++ p ∷ []) (k + n)) where
  -- one more was gone through
  pub gone_more : (all old rest : List P) (p : P) (before left left' n : ℕ)
      → Gone counts all old before left → old ≡ p ∷ rest → one p n → left' + n ≡ left
      → Gone counts all rest before left'
  gone_more all old rest p before left left' n g first h paid =
      let sum : left + g.spent ≡ before = g.paid in
      record {
        done = g.done ++ p ∷ [];
        spent = g.spent + n;
        are = g.are ∙ ap (λ r. g.done ++ r) first ∙ sym (append_assoc g.done (p ∷ []) rest);
        counted = more g.done g.spent p n g.counted h;
        paid = omega arith;
      }

  -- all were gone through
  pub gone_all : (all old : List P) (before left : ℕ)
      → Gone counts all old before left → old ≡ [] → (n : ℕ) × counts all n × (left + n ≡ before)
  gone_all all old before left g none =
      let same : all ≡ g.done = g.are ∙ ap (λ r. g.done ++ r) none ∙ append-nil g.done in
      (g.spent, subst (λ ps. counts ps g.spent) (sym same) g.counted, g.paid)
