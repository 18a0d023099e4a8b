-- A file whose head was checked once.
--     whole_in f              what it comes to
--     ChecksFile m bytes r    what opening the bytes in this manner answers
use Rattle.std.specs.Prelude.{◌≡◌, ℕ, List, Result, Some, MatchResult}
use Rattle.resb_format.specs.Error.{refusal_of}
use Rattle.resb_format.specs.declared.error.ReadingError.{ReadingError}
use Rattle.resb_read.specs.Manners.{whole_by}
use Rattle.resb_read.specs.Roots.{Whole}
use Rattle.resb_read.specs.declared.file.File.{File}
use Rattle.resb_read.specs.declared.file.Manner.{Manner}

-- what its bytes come to in the manner in which it is read
abbrev pub whole_in : File → Whole
whole_in f = whole_by f.manner f.bytes.now

-- the file of these bytes, which is read in this manner; or the first check of its head that fails
abbrev pub ChecksFile : Manner → List ℕ → Result File ReadingError → Type 0
ChecksFile m bytes r =
    MatchResult r
    (λ f. (f.manner ≡ m) × (f.bytes.now ≡ bytes))
    (λ e. (whole_by m bytes).refusal ≡ Some (refusal_of e))
