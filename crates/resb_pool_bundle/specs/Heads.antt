-- What reading the head of a file of any version answers.
--     head_bytes h            the file that a value of the code is the head of
--     ReadsHead bytes r       what reading a head answers
use Rattle.std.specs.Prelude.{◌≡◌, ℕ, List, Result}
use Rattle.resb_format.specs.Error.{ReadsUnless}
use Rattle.resb_format.specs.declared.error.ReadingError.{ReadingError}
use Rattle.resb_pool_bundle.specs.Checks.{head_refusal}
use Rattle.resb_pool_bundle.specs.declared.head.FileHead.{FileHead}

-- the bytes of the file whose head it is
abbrev pub head_bytes : FileHead → List ℕ
head_bytes h = h.index.bytes.now

-- the head of the file where no check fails, else the refusal of the first that does
abbrev pub ReadsHead : List ℕ → Result FileHead ReadingError → Type 0
ReadsHead bytes = ReadsUnless (head_refusal bytes) (λ h. head_bytes h ≡ bytes)
