-- What the calls for C answer, and what the caller gets of it.
--     CountsFile pool file r         what checking a file answers, beside the pool's bytes
--     Tells r status e               the status and the error that the caller gets of an answer
--     Reports r status n e           the same with the number that he gets
use Rattle.std.specs.Prelude.{◌≡◌, ◌≤◌, ◌<◌, ◌⊎◌, ℕ, List, ◌++◌, length, drop, take}
use Rattle.std.specs.Prelude.{Result, Ok, Err, IsUtf8, replicate, ℤ, pos}
use Rattle.std.specs.Str.Lossy.{utf8_valid_len}
use Rattle.resb_read.specs.Roots.{AnswersCountOf}
use Rattle.resb_read.specs.WithPool.{over}
use Rattle.resb_program.specs.Files.{LacksPool, RefusesReading}
use Rattle.resb_c.specs.Faults.{number_of, place_of, message_of}
use Rattle.resb_c.specs.Pools.{given, IsGiven, RefusesPool}
use Rattle.resb_c.specs.declared.fault.Fault.{Fault}
use Rattle.resb_c.specs.declared.fault.Fault.TheVariants.{TooShort, Reading, UsesPool, Pool}
use Rattle.resb_c.specs.declared.report.ResbError.{ResbError}

-- where the buffer has room, the answer stands at its front, what is behind stays, and its length
-- is answered; else nothing is written, and the length that is needed is answered
abbrev pub Fills : List ℕ → List ℕ → List ℕ → Result ℕ ℕ → Type 0
Fills answer old new (Ok n) =
    (n ≡ length answer) × (n ≤ length old) × (new ≡ answer ++ drop n old)
Fills answer old new (Err n) = (n ≡ length answer) × (length old < n) × (new ≡ old)

-- the bytes aren't UTF-8, and this is how long their longest front is that is
abbrev pub IsNotUtf8 : List ℕ → ℕ → Type 0
IsNotUtf8 bytes n = (IsUtf8 bytes → ⊥) × (n ≡ utf8_valid_len bytes)

-- the number of resources of the file's tree, beside the pool bundle of these bytes; the reader's
-- refusal; that the bytes are no pool bundle; or that the file lacks one
abbrev pub CountsFile : List ℕ → List ℕ → Result ℕ Fault → Type 0
CountsFile pool file (Ok n) = IsGiven pool × AnswersCountOf (over (given pool) file) (Ok n)
CountsFile pool file (Err UsesPool) = LacksPool (given pool) file
CountsFile pool file (Err (Pool e)) = RefusesPool pool e
CountsFile pool file (Err (Reading e)) = IsGiven pool × RefusesReading (given pool) file e
CountsFile pool file (Err _) = ⊥

-- the length that a fault has for the caller: that of the answer which the buffer is too short for
abbrev pub needed_of : Fault → ℕ
needed_of (TooShort n) = n
needed_of _ = 0

-- no message: all bytes are 0
abbrev pub IsNoMessage : List ℕ → Type 0
IsNoMessage message = message ≡ replicate 256 0

-- what the fault prints, cut at 255 bytes, stands at the front of 256 zeros, or there is no message
abbrev pub IsMessage : List ℕ → List ℕ → Type 0
IsMessage text message =
    ((n : ℕ) × Fills (take 255 text) (replicate 256 0) message (Ok n)) ⊎ IsNoMessage message

-- the status is 0 where there is an answer, and else the fault's number, which the error has too,
-- with its place and its message
abbrev pub Tells : {A : Type 0} → Result A Fault → ℕ → ResbError → Type 0
Tells (Ok x) status e = (status ≡ 0) × (e.kind ≡ 0) × (e.place ≡ 0) × IsNoMessage e.message
Tells (Err fault) status e =
    (status ≡ number_of fault) × (e.kind ≡ number_of fault) × (e.place ≡ place_of fault)
    × IsMessage (message_of fault) e.message

-- the number that the caller gets of an answer: the answer, or the length that a fault has for him
abbrev pub number_told : Result ℕ Fault → ℕ
number_told (Ok n) = n
number_told (Err fault) = needed_of fault

-- the number with a sign that the caller gets of an answer: the answer, or 0
abbrev pub integer_told : Result ℤ Fault → ℤ
integer_told (Ok x) = x
integer_told (Err fault) = pos 0

-- the status and the error tell of the answer, and the number is the one that the caller gets
abbrev pub Reports : Result ℕ Fault → ℕ → ℕ → ResbError → Type 0
Reports r status number e = Tells r status e × (number ≡ number_told r)
