-- What reading a number or a spelling answers: the value that is written so, or the refusal where
-- none is.
use Rattle.std.specs.Prelude.{ℕ, List, codes, Result}
use Rattle.resb_format.specs.Coded.{ReadsCode}
use Rattle.resb_format.specs.declared.error.ReadingError.{ReadingError}
use Rattle.resb_head.specs.Codes.{endianness_number, charset_number, version_bytes}
use Rattle.resb_head.specs.declared.endianness.Endianness.{Endianness}
use Rattle.resb_head.specs.declared.charset.CharsetFamily.{CharsetFamily}
use Rattle.resb_head.specs.declared.version.FormatVersion.{FormatVersion}

-- the order of bytes that has this number
abbrev pub ReadsEndianness : ℕ → Result Endianness ReadingError → Type 0
ReadsEndianness = ReadsCode endianness_number (codes "unrecognized value for Endianness")

-- the family of character sets that has this number
abbrev pub ReadsCharset : ℕ → Result CharsetFamily ReadingError → Type 0
ReadsCharset = ReadsCode charset_number (codes "unrecognized value for CharsetFamily")

-- the version that is spelled by these bytes
abbrev pub ReadsVersion : List ℕ → Result FormatVersion ReadingError → Type 0
ReadsVersion = ReadsCode version_bytes (codes "unrecognized format version")
