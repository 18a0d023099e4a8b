-- Lists and options: what names no word of this project.
use Rattle.std.proofs.Common.{Option, Some, ◌≡◌, None, ℕ, List, ◌<◌, length, zero, suc, []}
use Rattle.std.proofs.Common.{◌∷◌, take, refl, ap, arith, min}
use Rattle.std.specs.Prelude.{slice_get, slice_index}
use Rattle.std.proofs.lemmas.Option.{slice_get-get_or}
use Rattle.std.proofs.lemmas.Grind.{common_steps}

-- what is there is one thing
pub same_some : {A : Type 0} {o : Option A} {x y : A} → o ≡ Some x → o ≡ Some y → x ≡ y
same_some e f = cc

-- where nothing is, nothing is found
pub some_none : {A : Type 0} {o : Option A} {x : A} → o ≡ None → o ≡ Some x → ⊥
some_none e f = cc

-- a number at a place inside a list
pub get_inside : (xs : List ℕ) (i : ℕ) → i < length xs → slice_get xs i ≡ Some (slice_index xs i)
get_inside xs i h = slice_get-get_or xs i 0 h

-- no more of a list than it has
pub take_within : (us : List ℕ) (n : ℕ) → take (min (length us) n) us ≡ take n us
take_within [] n = grind (arith, common_steps)
take_within (u ∷ us) zero =
    let e : min (suc (length us)) 0 ≡ 0 = omega arith in
    rw e refl
take_within (u ∷ us) (suc n) =
    let e : min (suc (length us)) (suc n) ≡ suc (min (length us) n) = omega arith in
    rw e (ap (λ vs. u ∷ vs) (take_within us n))
