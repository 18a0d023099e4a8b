-- The numbers and bytes by which a file names its orders of bytes, families of character
-- sets and versions. Those of types stand in `resb_format`.
use Rattle.std.specs.Prelude.{ℕ, List, [], ◌∷◌}
use Rattle.resb_head.specs.declared.endianness.Endianness.{Endianness}
use Rattle.resb_head.specs.declared.endianness.Endianness.TheVariants.{Little, Big}
use Rattle.resb_head.specs.declared.charset.CharsetFamily.{CharsetFamily}
use Rattle.resb_head.specs.declared.charset.CharsetFamily.TheVariants.{Ascii, Ebcdic}
use Rattle.resb_head.specs.declared.version.FormatVersion.{FormatVersion}
use Rattle.resb_head.specs.declared.version.FormatVersion.TheVariants.{V1_0, V1_1, V1_2, V1_3}
use Rattle.resb_head.specs.declared.version.FormatVersion.TheVariants.{V2_0, V3_0}

-- the number by which a header names an order of bytes
abbrev pub endianness_number : Endianness → ℕ
endianness_number Little = 0
endianness_number Big = 1

-- the number by which a header names a family of character sets
abbrev pub charset_number : CharsetFamily → ℕ
charset_number Ascii = 0
charset_number Ebcdic = 1

-- major and minor number, and two zero bytes
abbrev pub version_bytes : FormatVersion → List ℕ
version_bytes V1_0 = 1 ∷ 0 ∷ 0 ∷ 0 ∷ []
version_bytes V1_1 = 1 ∷ 1 ∷ 0 ∷ 0 ∷ []
version_bytes V1_2 = 1 ∷ 2 ∷ 0 ∷ 0 ∷ []
version_bytes V1_3 = 1 ∷ 3 ∷ 0 ∷ 0 ∷ []
version_bytes V2_0 = 2 ∷ 0 ∷ 0 ∷ 0 ∷ []
version_bytes V3_0 = 3 ∷ 0 ∷ 0 ∷ 0 ∷ []
