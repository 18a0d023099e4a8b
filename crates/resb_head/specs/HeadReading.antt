-- What reading a head's parts answers, and cutting a file into its own: their values where no check
-- fails, else the refusal of the first that does.
use Rattle.std.specs.Prelude.{◌≡◌, ℕ, List, Bool, Some, None, Result, MatchResult}
use Rattle.resb_format.specs.Parts.{parts_in}
use Rattle.resb_head.specs.File.{parts_of, root_word}
use Rattle.resb_format.specs.Error.{ReadsUnless, refusal_of}
use Rattle.resb_format.specs.declared.error.ReadingError.{ReadingError}
use Rattle.resb_head.specs.HeadChecks.{header_refusal, info_refusal, index_refusal, file_refusal}
use Rattle.resb_head.specs.Head.{HeaderAt, InfoAt, IndexAt}
use Rattle.resb_head.specs.declared.head.BinHeader.{BinHeader}
use Rattle.resb_head.specs.declared.repr_info.BinReprInfo.{BinReprInfo}
use Rattle.resb_head.specs.declared.index.BinIndex.{BinIndex}
use Rattle.resb_head.specs.declared.checked_file.CheckedFile.{CheckedFile}

-- a header with the values that stand there, or the first check that fails; a foreign order of
-- bytes is let through where `any` is true
abbrev pub ReadsHeader : Bool → List ℕ → Result BinHeader ReadingError → Type 0
ReadsHeader any bytes = ReadsUnless (header_refusal any bytes) (λ h. HeaderAt h bytes)

-- representation info with the values that stand there, or the first check that fails
abbrev pub ReadsInfo : List ℕ → Result BinReprInfo ReadingError → Type 0
ReadsInfo bytes = ReadsUnless (info_refusal bytes) (λ i. InfoAt i bytes)

-- an index with the values that stand there, or the first check that fails
abbrev pub ReadsIndex : List ℕ → Result BinIndex ReadingError → Type 0
ReadsIndex bytes = ReadsUnless (index_refusal bytes) (λ i. IndexAt i bytes)

-- the file's parts and its root's word where no check fails, else the refusal of the first that
-- does
abbrev pub ReadsFile : List ℕ → Result CheckedFile ReadingError → Type 0
ReadsFile bytes r =
    MatchResult r
    (λ f. (file_refusal bytes ≡ None) × (parts_in f.file ≡ parts_of bytes)
    × (f.root ≡ root_word bytes))
    (λ e. file_refusal bytes ≡ Some (refusal_of e))
