-- The pool bundle that is given beside a file, as bytes.
--     given pool              the pool bundle of these bytes, none where there are none
--     IsGiven pool            there are no bytes, or they are a pool bundle
--     RefusesPool pool e      why the bytes are no pool bundle
use Rattle.std.specs.Prelude.{◌≡◌, ◌≢◌, ◌⊎◌, ℕ, List, [], ◌∷◌, Option, Some, None}
use Rattle.resb_format.specs.Error.{refusal_of}
use Rattle.resb_format.specs.declared.error.ReadingError.{ReadingError}
use Rattle.resb_pool_bundle.specs.Checks.{pool_refusal}
use Rattle.resb_pool_bundle.specs.FileWith.{IsPoolFile}
use Rattle.resb_pool_bundle.specs.Pool.{Pool, pool_of}

-- the pool bundle of these bytes: none is given where there are no bytes
abbrev pub given : List ℕ → Option Pool
given [] = None
given (byte ∷ bytes) = Some (pool_of (byte ∷ bytes))

-- no pool bundle is given, or the bytes are one
abbrev pub IsGiven : List ℕ → Type 0
IsGiven pool = (pool ≡ []) ⊎ IsPoolFile pool

-- there are bytes, and this refusal is that of the first check of a pool bundle that fails
abbrev pub RefusesPool : List ℕ → ReadingError → Type 0
RefusesPool pool e = (pool ≢ []) × (pool_refusal pool ≡ Some (refusal_of e))
