-- What a writer holds of a text whose writing failed, and how long a text is within a limit.
use Rattle.std.specs.Prelude.{◌≡◌, ◌≢◌, ◌⊎◌, ◌<◌, ◌≤◌, ℕ, List, ◌++◌, length}
use Rattle.std.specs.Prelude.{Option, MatchOption}
use Rattle.std.specs.Io.KnownBytes.{Appends}
use Rattle.std.specs.IoError.{error_kind}
use Rattle.std.specs.declared.io.Error.{Error}
use Rattle.std.specs.declared.io.ErrorKind.TheVariants.{OutOfMemory, Interrupted}

-- the writer gained a part of the text, from its start
pub record AppendsPart (old new : Option (List ℕ)) (text : List ℕ) : Type 0 where
  pub part : List ℕ
  pub rest : List ℕ
  pub is : text ≡ part ++ rest
  pub gained : Appends old new part

-- the writer gained a part of the text, from its start, and some of it is left
pub record AppendsLess (old new : Option (List ℕ)) (text : List ℕ) : Type 0 where
  pub part : List ℕ
  pub rest : List ℕ
  pub is : text ≡ part ++ rest
  pub left : 0 < length rest
  pub gained : Appends old new part

-- why a text isn't written to its end: memory was wanted; or some of it is left, and the writer was
-- not only interrupted
abbrev pub FailsWriting : Option (List ℕ) → Option (List ℕ) → List ℕ → Error → Type 0
FailsWriting old new text e =
    (error_kind e ≡ OutOfMemory) ⊎ (AppendsLess old new text × (error_kind e ≢ Interrupted))

-- how many bytes a text has, where those are no more than a limit, or nothing where they are more
abbrev pub IsLengthWithin : ℕ → List ℕ → Option ℕ → Type 0
IsLengthWithin limit text found =
    MatchOption found (limit < length text) (λ n. (n ≡ length text) × (n ≤ limit))
