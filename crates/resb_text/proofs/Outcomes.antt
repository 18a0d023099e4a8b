-- What is known of a result, handed on.
use Rattle.std.specs.Prelude.{Option, Some, None, MatchResult, MatchOption, Result, Ok, Err}
use Rattle.std.specs.Result.{IsErrAnd, IfErr}
use Rattle.std.proofs.Common.{◌≡◌, sym, subst}

-- what is answered for an error that a call gave
pub match_err : {T E : Type 0} {Q : E → Type 0} (P : T → Type 0) (G : E → Type 0) (r : Result T E)
    → IsErrAnd r Q → ((e : E) → Q e → G e) → MatchResult r P G
match_err P G (Ok x) h f = absurd h
match_err P G (Err e) h f = f e h

-- what is answered for just that error
pub match_same : {T E : Type 0} (P : T → Type 0) (G : E → Type 0) (r : Result T E) (e : E)
    → IsErrAnd r (λ y. y ≡ e) → G e → MatchResult r P G
match_same P G r e h g = match_err P G r h (λ y same. subst G (sym same) g)

-- what is said of just that error
pub if_err_same : {T E : Type 0} (G : E → Type 0) (r : Result T E) (e : E)
    → IsErrAnd r (λ y. y ≡ e) → G e → IfErr r G
if_err_same G (Ok x) e h g = absurd h
if_err_same G (Err y) e h g = subst G (sym h) g

-- what is said of an option, said more weakly
pub match_option_to : {A N M : Type 0} {P Q : A → Type 0} (r : Option A) → (N → M)
    → ((x : A) → P x → Q x) → MatchOption r N P → MatchOption r M Q
match_option_to (Some x) f g h = g x h
match_option_to None f g h = f h
