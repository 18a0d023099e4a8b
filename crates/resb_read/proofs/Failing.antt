-- What an access answers where its first place is refused: it stands there, and has failed.
use Rattle.std.proofs.Common.{ℕ, ◌≡◌, ◌∷◌, List, Some, None, Err}
use Rattle.resb_format.specs.declared.error.ReadingError.{ReadingError}
use Rattle.resb_read.specs.RefusedReadings.{RefusesThere}
use Rattle.resb_read.specs.Access.{AccessOver, StepsReading}

abbrev pub stopped_at : {P : Type 0} → ReadingError → List P → AccessOver P
stopped_at e ps = record { rest = ps; failed = Some e }

pub first_fails : {P X : Type 0} (reads : P → X → ℕ → Type 0) (counts : P → ℕ → Type 0)
    (refuses : P → ℕ → ℕ → ReadingError → Type 0) (old new : AccessOver P) (p : P) (ps : List P)
    (left left' : ℕ) (e : ReadingError)
    → old.failed ≡ None → old.rest ≡ p ∷ ps → new ≡ stopped_at e (p ∷ ps)
    → RefusesThere counts refuses p left left' e
    → StepsReading reads counts refuses old left new left' (Err e)
first_fails reads counts refuses old new p ps left left' e whole rest stopped refused =
    rw (whole, rest) (stopped, refused)
