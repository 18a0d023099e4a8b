-- Numbers and spellings are read back as what they were written for.
use Rattle.std.proofs.Common.{◌≡◌, Result, Ok, Err, ap, refl}
use Rattle.resb_format.specs.Laws.{Survives}
use Rattle.resb_format.specs.declared.error.ReadingError.{ReadingError}
use Rattle.resb_head.specs.Codes.{endianness_number, charset_number, version_bytes}
use Rattle.resb_head.specs.CodeReading.{ReadsEndianness, ReadsCharset, ReadsVersion}
use Rattle.resb_head.specs.declared.endianness.Endianness.{Endianness}
use Rattle.resb_head.specs.declared.charset.CharsetFamily.{CharsetFamily}
use Rattle.resb_head.specs.declared.version.FormatVersion.{FormatVersion}
use Rattle.resb_head.proofs.Apart.{endianness_apart, charset_apart, version_apart}

endianness_read : (x : Endianness) (r : Result Endianness ReadingError)
    → ReadsEndianness (endianness_number x) r → r ≡ Ok x
endianness_read x (Ok y) h = ap Ok (endianness_apart y x h)
endianness_read x (Err e) h = absurd (h.0 x refl)

charset_read : (x : CharsetFamily) (r : Result CharsetFamily ReadingError)
    → ReadsCharset (charset_number x) r → r ≡ Ok x
charset_read x (Ok y) h = ap Ok (charset_apart y x h)
charset_read x (Err e) h = absurd (h.0 x refl)

version_read : (v : FormatVersion) (r : Result FormatVersion ReadingError)
    → ReadsVersion (version_bytes v) r → r ≡ Ok v
version_read v (Ok w) h = ap Ok (version_apart w v h)
version_read v (Err e) h = absurd (h.0 v refl)

pub endianness_survives : Survives endianness_number ReadsEndianness
endianness_survives = record { read_back = endianness_read; written_back = λ n x h. h }

pub charset_survives : Survives charset_number ReadsCharset
charset_survives = record { read_back = charset_read; written_back = λ n x h. h }

pub version_survives : Survives version_bytes ReadsVersion
version_survives = record { read_back = version_read; written_back = λ n x h. h }
