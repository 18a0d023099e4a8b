-- What the laws of this crate say, beside those of numbers and spellings.
--     VersionsAscend cmp          versions are ordered as their bytes, from 1.0 to 3.0
--     HeaderSurvives              a header that was read is read back from the bytes it is written
--                                 as
--     IndexSurvives               so is any index, and the words that were read are written
--                                 unchanged
--     BundleFilePasses            the checks of a file's head let through exactly the bundle files
use Rattle.std.specs.Prelude.{◌≡◌, ℕ, ◌*◌, ◌≤◌, min, List, [], ◌∷◌, length, take, Bool, true, false}
use Rattle.std.specs.Prelude.{nat_eq, Ok, None, Result, slice_index, slice_range, codes}
use Rattle.std.specs.Ordering.{nat_cmp}
use Rattle.std.specs.Cmp.Lexicographic.{slice_cmp}
use Rattle.std.specs.declared.cmp.Ordering.{Ordering}
use Rattle.resb_format.specs.Bytes.{unit_in}
use Rattle.resb_head.specs.File.{IsBundleFile}
use Rattle.resb_format.specs.Laws.{EachFits}
use Rattle.resb_format.specs.declared.error.ReadingError.{ReadingError}
use Rattle.resb_head.specs.Codes.{version_bytes}
use Rattle.resb_head.specs.Head.{header_bytes, index_bytes, index_words}
use Rattle.resb_head.specs.HeadChecks.{header_refusal, file_refusal, is_version}
use Rattle.resb_head.specs.HeadReading.{ReadsHeader, ReadsIndex}
use Rattle.resb_head.specs.declared.head.BinHeader.{BinHeader}
use Rattle.resb_head.specs.declared.index.BinIndex.{BinIndex}
use Rattle.resb_head.specs.declared.version.FormatVersion.{FormatVersion}

-- versions are ordered as the bytes that spell them: 1.0, 1.1, 1.2, 1.3, 2.0, 3.0
abbrev pub VersionsAscend : (FormatVersion → FormatVersion → Ordering) → Type 0
VersionsAscend cmp =
    (a b : FormatVersion) → cmp a b ≡ slice_cmp nat_cmp (version_bytes a) (version_bytes b)

-- a header that was read is read back from the bytes that it is written as
abbrev pub HeaderSurvives : Type 0
HeaderSurvives =
    (bytes : List ℕ) (h : BinHeader) (r : Result BinHeader ReadingError) → EachFits 8 bytes
    → ReadsHeader false bytes (Ok h) → ReadsHeader false (header_bytes h) r → r ≡ Ok h

-- an index is read back from its bytes, and one that was read is written as the words that it was
-- read from
pub record IndexSurvives : Type 0 where
  pub read_back : (i : BinIndex) (r : Result BinIndex ReadingError) → EachFits 32 (index_words i)
      → ReadsIndex (index_bytes i) r → r ≡ Ok i
  pub written_back : (bytes : List ℕ) (i : BinIndex) → EachFits 8 bytes → ReadsIndex bytes (Ok i)
      → index_bytes i ≡ take (4 * min i.field_count 8) bytes

-- a header that passes each check
pub record IsHeader (any : Bool) (bytes : List ℕ) : Type 0 where
  pub long : 24 ≤ length bytes
  pub magic : slice_range bytes 2 4 ≡ 0xda ∷ 0x27 ∷ []
  pub known_endianness : slice_index bytes 8 ≤ 1
  pub own_endianness : any ≡ false → slice_index bytes 8 ≡ 0
  pub known_charset : slice_index bytes 9 ≤ 1
  pub format : slice_range bytes 12 16 ≡ codes "ResB"
  pub version : is_version (slice_range bytes 16 20) ≡ true
  pub size : 24 ≤ unit_in (nat_eq (slice_index bytes 8) 1) bytes 0

-- no check fails exactly where each passes
abbrev pub HeaderPasses : Type 0
HeaderPasses =
    (any : Bool) (bytes : List ℕ)
    → (header_refusal any bytes ≡ None → IsHeader any bytes)
    × (IsHeader any bytes → header_refusal any bytes ≡ None)

-- no check of a file's head fails exactly where it is a bundle file's
abbrev pub BundleFilePasses : Type 0
BundleFilePasses =
    (bytes : List ℕ)
    → (file_refusal bytes ≡ None → IsBundleFile bytes)
    × (IsBundleFile bytes → file_refusal bytes ≡ None)
