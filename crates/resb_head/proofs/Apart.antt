-- Numbers and spellings tell apart what is written by them.
use Rattle.std.specs.Prelude.{◌≡◌, ℕ, List, nat_eq, if◌then◌else◌, slice_index}
use Rattle.std.proofs.Common.{refl, sym, ap, ◌∙◌}
use Rattle.resb_head.specs.Codes.{endianness_number, charset_number, version_bytes}
use Rattle.resb_head.specs.declared.endianness.Endianness.{Endianness}
use Rattle.resb_head.specs.declared.endianness.Endianness.TheVariants.{Little, Big}
use Rattle.resb_head.specs.declared.charset.CharsetFamily.{CharsetFamily}
use Rattle.resb_head.specs.declared.charset.CharsetFamily.TheVariants.{Ascii, Ebcdic}
use Rattle.resb_head.specs.declared.version.FormatVersion.{FormatVersion}
use Rattle.resb_head.specs.declared.version.FormatVersion.TheVariants.{V1_0, V1_1, V1_2, V1_3}
use Rattle.resb_head.specs.declared.version.FormatVersion.TheVariants.{V2_0, V3_0}

endianness_back : ℕ → Endianness
endianness_back n = if nat_eq n 0 then Little else Big

endianness_back-number : (x : Endianness) → endianness_back (endianness_number x) ≡ x
unfolding endianness_back
endianness_back-number Little = refl
endianness_back-number Big = refl

pub endianness_apart : (x y : Endianness) → endianness_number x ≡ endianness_number y → x ≡ y
endianness_apart x y e =
    sym (endianness_back-number x) ∙ ap endianness_back e ∙ endianness_back-number y

charset_back : ℕ → CharsetFamily
charset_back n = if nat_eq n 0 then Ascii else Ebcdic

charset_back-number : (x : CharsetFamily) → charset_back (charset_number x) ≡ x
unfolding charset_back
charset_back-number Ascii = refl
charset_back-number Ebcdic = refl

pub charset_apart : (x y : CharsetFamily) → charset_number x ≡ charset_number y → x ≡ y
charset_apart x y e = sym (charset_back-number x) ∙ ap charset_back e ∙ charset_back-number y

version_back : List ℕ → FormatVersion
version_back bs =
    if nat_eq (slice_index bs 0) 3 then V3_0 else if nat_eq (slice_index bs 0) 2 then V2_0 else
    if nat_eq (slice_index bs 1) 3 then V1_3 else if nat_eq (slice_index bs 1) 2 then V1_2 else
    if nat_eq (slice_index bs 1) 1 then V1_1 else V1_0

version_back-bytes : (v : FormatVersion) → version_back (version_bytes v) ≡ v
unfolding version_back
version_back-bytes V1_0 = refl
version_back-bytes V1_1 = refl
version_back-bytes V1_2 = refl
version_back-bytes V1_3 = refl
version_back-bytes V2_0 = refl
version_back-bytes V3_0 = refl

pub version_apart : (v w : FormatVersion) → version_bytes v ≡ version_bytes w → v ≡ w
version_apart v w e = sym (version_back-bytes v) ∙ ap version_back e ∙ version_back-bytes w
