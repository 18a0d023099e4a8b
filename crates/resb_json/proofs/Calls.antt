-- What calls that may fail leave where they don't.
use Rattle.std.specs.Prelude.{◌≡◌, ℕ, List, ◌++◌, Result, Ok, Err, OnOk, is_ok, is_err, false}
use Rattle.std.specs.Prelude.{if◌then◌else◌}
use Rattle.std.proofs.Common.{◌∙◌, true≢false}

-- bytes were put behind others
pub extended : {T E : Type 0} (r : Result T E) (new old bytes all : List ℕ)
    → new ≡ (if is_ok r then old ++ bytes else old) → old ++ bytes ≡ all → OnOk r (new ≡ all)
extended (Ok x) new old bytes all e f = e ∙ f
extended (Err x) new old bytes all e f = tt

-- no error was answered
pub without_error : {T E P : Type 0} (r : Result T E) → is_err r ≡ false → OnOk r P → P
without_error (Ok x) e h = h
without_error (Err x) e h = absurd (true≢false e)
