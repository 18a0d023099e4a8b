-- The number at a place of a vector.
use Rattle.std.specs.Prelude.{◌≡◌, ℕ, ◌<◌, ◌≤◌, List, [], ◌∷◌, length, get_or, slice_get}
use Rattle.std.specs.Prelude.{Option, Some, None, MatchOption, IfSome}
use Rattle.std.specs.Option.{option_copied}
use Rattle.std.specs.Borrow.{Bor}
use Rattle.std.proofs.Common.{refl, arith, sym, suc, zero}
use Rattle.std.proofs.lemmas.Option.{slice_get_read}

-- behind the end of a list stands nothing
nothing_behind : (xs : List ℕ) (i : ℕ) → length xs ≤ i → slice_get xs i ≡ None
nothing_behind [] i h = refl
nothing_behind (x ∷ xs) zero h = absurd (omega arith)
nothing_behind (x ∷ xs) (suc i) h = nothing_behind xs i (omega arith)

-- a number that was looked up is the one at its place
pub looked_up : (xs : List ℕ) (i : ℕ) (r : Option (Bor ℕ))
    → (Q : Bor ℕ → Type 0) → MatchOption r (length xs ≤ i) (λ x. (i < length xs) × Q x)
    → IfSome r (λ x. x.now ≡ get_or xs i x.now) → option_copied r ≡ slice_get xs i
looked_up xs i None Q h e = sym (nothing_behind xs i h)
looked_up xs i (Some x) Q h e = sym (slice_get_read xs (length xs) i x.now refl h.0 e)
