-- What some of a file's checks answer, each a step of cutting the file into its parts.
use Rattle.std.specs.Prelude.{◌≡◌, ℕ, List, Some, None, Result, MatchResult, slice_index}
use Rattle.resb_format.specs.Bytes.{words_of}
use Rattle.resb_format.specs.Parts.{parts_in}
use Rattle.resb_head.specs.File.{parts_in_body}
use Rattle.resb_format.specs.Error.{refusal_of, first_refusal}
use Rattle.resb_format.specs.declared.error.ReadingError.{ReadingError}
use Rattle.resb_head.specs.HeadChecks.{support_checks, block_checks, body_checks}
use Rattle.resb_head.specs.Head.{InfoAt}
use Rattle.resb_head.specs.declared.repr_info.BinReprInfo.{BinReprInfo}
use Rattle.resb_head.specs.declared.checked_file.CheckedFile.{CheckedFile}

-- a body's parts and its root's word where no check of it fails, else the first refusal
abbrev pub ReadsBody : List ℕ → Result CheckedFile ReadingError → Type 0
ReadsBody body r =
    MatchResult r
    (λ f. (first_refusal (body_checks body) ≡ None) × (parts_in f.file ≡ parts_in_body body)
    × (f.root ≡ slice_index (words_of body) 0))
    (λ e. first_refusal (body_checks body) ≡ Some (refusal_of e))

-- the same of the checks of the blocks alone
abbrev pub ReadsBlocks : List ℕ → Result CheckedFile ReadingError → Type 0
ReadsBlocks body r =
    MatchResult r
    (λ f. (first_refusal (block_checks body) ≡ None) × (parts_in f.file ≡ parts_in_body body)
    × (f.root ≡ slice_index (words_of body) 0))
    (λ e. first_refusal (block_checks body) ≡ Some (refusal_of e))

-- whether a file with this info is read
abbrev pub ReadsSupport : BinReprInfo → {A : Type 0} → Result A ReadingError → Type 0
ReadsSupport info r =
    (bytes : List ℕ) → InfoAt info bytes
    → MatchResult r (λ _. first_refusal (support_checks bytes) ≡ None)
    (λ e. first_refusal (support_checks bytes) ≡ Some (refusal_of e))
