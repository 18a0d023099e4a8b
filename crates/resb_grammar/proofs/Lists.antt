-- Lists and options: what names no word of this project.
use Rattle.std.proofs.Common.{◌≡◌, ℕ, ◌-◌, ◌≤◌, arith, List, length, drop, Bool, true, false}
use Rattle.std.proofs.Common.{refl}
use Rattle.std.proofs.lemmas.List.{length-take}
use Rattle.std.specs.Prelude.{slice_range}
use Rattle.std.proofs.Common.{◌<◌, get_or, ⊎_elim}
use Rattle.std.proofs.lemmas.List.{get_or_past}
use Rattle.std.proofs.lemmas.Bool.{cases_lt, false≢true}
use Rattle.std.proofs.Common.{Option, Some, None}
use Rattle.std.specs.Prelude.{IfNone, if◌then◌else◌}

-- a part of a text is no longer than its places are apart
pub length-slice_range : (text : List ℕ) (from to : ℕ)
    → length (slice_range text from to) ≤ to - from
length-slice_range text from to =
    let e = length-take (to - from) (drop from text) in omega (arith, e)

-- a byte other than 0 stands inside the text
pub nonzero_inside : (text : List ℕ) (i : ℕ) → 0 < get_or text i 0 → i < length text
nonzero_inside text i h =
    ⊎_elim (λ (w : i < length text). w)
    (λ (w : length text ≤ i). absurd (omega (arith, get_or_past text i 0 w)))
    (cases_lt i (length text))

-- where nothing is found, what follows from the reason
pub if_none : (o : Option ℕ) (P Q : Type 0) → (P → Q) → IfNone o P → IfNone o Q
if_none None P Q f h = f h
if_none (Some x) P Q f h = h

-- of a place and the end, either is at least the place
pub chosen_at_least : (b : Bool) (n at : ℕ) → at ≤ n → at ≤ (if b then n else at)
chosen_at_least true n at l = l
chosen_at_least false n at l = omega arith

-- and at most the end
pub chosen_at_most : (b : Bool) (n at : ℕ) → at ≤ n → (if b then n else at) ≤ n
chosen_at_most true n at l = omega arith
chosen_at_most false n at l = l

-- the second of two is chosen where the test fails
pub chosen_else : (b : Bool) (n at : ℕ) → (b ≡ true → ⊥) → (if b then n else at) ≡ at
chosen_else true n at f = absurd (f refl)
chosen_else false n at f = refl

-- the first where it holds
pub chosen_then : (b : Bool) (n at : ℕ) → b ≡ true → (if b then n else at) ≡ n
chosen_then true n at e = refl
chosen_then false n at e = absurd (false≢true e)
