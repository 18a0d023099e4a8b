-- Lists and options: what names no word of this project.
use Rattle.std.proofs.Common.{[], ◌∷◌, List, ◌++◌, ◌≡◌, ◌+◌, length, length-append, subst, arith, ℕ}
use Rattle.std.proofs.Common.{true, false, Option, Some, None, refl, sym, ap, Bool, if◌then◌else◌}
use Rattle.std.specs.List.{All}
use Rattle.std.proofs.lemmas.List.Elements.{All-cons, All-nil}
use Rattle.std.proofs.lemmas.List.{get_or-append-add}
use Rattle.std.specs.Str.{bytes_eq}
use Rattle.std.proofs.lemmas.Slice.Eq.{bytes_eq-Decides}
use Rattle.std.specs.Option.{option_map}
use Rattle.std.proofs.lemmas.Option.{same_Some}
use Rattle.std.proofs.Common.{Result, Ok, Err}
use Rattle.std.specs.Result.{OnErr}

-- what holds of one thing holds of each in the list of it
pub All-one : {A : Type 0} (P : A → Type 0) (x : A) → P x → All P (x ∷ [])
All-one P x h = All-cons P x [] h (All-nil P)

-- what holds of each element holds of one behind a front
pub at_front : {A : Type 0} (P : A → Type 0) (done : List A) (e : A) (rest : List A)
    → All P (done ++ e ∷ rest) → P e
at_front P done e rest h =
    let long : length (done ++ e ∷ rest) ≡ length done + length (e ∷ rest) =
    length-append done (e ∷ rest) in
    subst P (get_or-append-add done (e ∷ rest) 0 e) (h (length done + 0) e (omega arith))

-- lists that a test of bytes tells apart are not equal
pub other_text : (xs ys : List ℕ) → false ≡ bytes_eq xs ys → xs ≡ ys → ⊥
other_text xs ys h e = let t : bytes_eq xs ys ≡ true = (bytes_eq-Decides xs ys).1 e in cc

-- what an option that is mapped has comes from what it had
pub some_from_mapped : {A B : Type 0} (f : A → B) (o : Option A) (y : B) → option_map f o ≡ Some y
    → (x : A) × (o ≡ Some x) × (y ≡ f x)
some_from_mapped f (Some x) y e = (x, refl, cc)
some_from_mapped f None y e = cc

-- what is there has the count that it is given
pub counted_as : {A B : Type 0} (f : A → B) (k : ℕ) (o : Option A) (q : B × ℕ)
    → option_map {U = B × ℕ} (λ x. (f x, k)) o ≡ Some q → q.1 ≡ k
counted_as f k (Some x) q e = sym (ap (λ r. r.1) (same_Some _ _ e))
counted_as f k None q e = cc

-- what is given where a test holds has the count that was given
pub chosen_count : {A : Type 0} (b : Bool) (p q : A × ℕ)
    → (if b then Some p else None) ≡ Some q → q.1 ≡ p.1
chosen_count true p q e = sym (ap (λ r. r.1) (same_Some _ _ e))
chosen_count false p q e = cc

-- what holds anyway holds of an error
pub OnErr_from : {X E : Type 0} (r : Result X E) (P : Type 0) → P → OnErr r P
OnErr_from (Ok x) P h = tt
OnErr_from (Err e) P h = h
