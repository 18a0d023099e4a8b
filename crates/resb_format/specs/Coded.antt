-- What reading a code answers: the value that is written as it, or the refusal where none is. Codes
-- are the numbers, words and bytes by which a file names types, versions and the like.
--     ReadsCode write message code r
--                             the answer r to a code of values that are written by `write`
use Rattle.std.specs.Prelude.{◌≡◌, ◌≢◌, ℕ, List, Result, MatchResult}
use Rattle.resb_format.specs.Error.{IsInvalid}
use Rattle.resb_format.specs.declared.error.ReadingError.{ReadingError}

-- the value that is written as this code; or no value is, and the error says: invalid data
abbrev pub ReadsCode : {X C : Type 0} → (X → C) → List ℕ → C → Result X ReadingError → Type 0
ReadsCode {X} write message code r =
    MatchResult r (λ x. write x ≡ code)
    (λ e. ((x : X) → write x ≢ code) × IsInvalid e message)
