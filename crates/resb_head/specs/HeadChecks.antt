-- The checks of a file's head in their order, and what is answered for the first that fails. (ICU's
-- `udata.h`, `ucmndata.h` and `uresdata.h`.)
--     header_refusal any bytes    for a header; a foreign order of bytes is let through where `any`
--                                 is true
--     info_refusal bytes          for the representation info, the 20 bytes behind the magic word
--     index_refusal bytes         for an index, the words behind the root's descriptor
--     file_refusal bytes          for a whole file: header, what is supported, index and blocks
use Rattle.std.specs.Prelude.{ℕ, ◌*◌, min, List, [], ◌∷◌, ◌++◌, length, drop, Bool, false}
use Rattle.std.specs.Prelude.{◌||◌, ◌&&◌, nat_le, nat_eq, Option, slice_index}
use Rattle.std.specs.Prelude.{slice_range, codes}
use Rattle.std.specs.List.{list_any}
use Rattle.std.specs.Str.{bytes_eq}
use Rattle.resb_format.specs.Bytes.{words_of, unit_in}
use Rattle.resb_head.specs.File.{body_of}
use Rattle.resb_format.specs.Error.{Refusal, invalid, unsupported, end_of_input, first_refusal}
use Rattle.resb_head.specs.Codes.{version_bytes}
use Rattle.resb_head.specs.declared.version.FormatVersion.TheVariants.{V1_0, V1_1, V1_2, V1_3}
use Rattle.resb_head.specs.declared.version.FormatVersion.TheVariants.{V2_0, V3_0}

-- the bytes spell one of the six versions
abbrev pub is_version : List ℕ → Bool
is_version bytes =
    list_any (λ v. bytes_eq (version_bytes v) bytes) (V1_0 ∷ V1_1 ∷ V1_2 ∷ V1_3 ∷ V2_0 ∷ V3_0 ∷ [])

-- the checks of representation info, in their order, each with its refusal; `any` lets both orders
-- of bytes pass
unfoldable pub info_checks : Bool → List ℕ → List (Bool × Refusal)
info_checks any info =
    (nat_le (slice_index info 4) 1, invalid (codes "unrecognized value for Endianness"))
    ∷ (
      any || nat_eq (slice_index info 4) 0,
      unsupported (codes "bundle endianness does not match platform endianness"),
    )
    ∷ (nat_le (slice_index info 5) 1, invalid (codes "unrecognized value for CharsetFamily"))
    ∷ (
      bytes_eq (slice_range info 8 12) (codes "ResB"),
      invalid (codes "unexpected data format value"),
    )
    ∷ (is_version (slice_range info 12 16), invalid (codes "unrecognized format version"))
    ∷ []

-- the first check of representation info that fails
unfoldable pub info_refusal : List ℕ → Option Refusal
info_refusal bytes =
    first_refusal
    ((nat_le 20 (length bytes), invalid (codes "input is too short to contain representation info"))
    ∷ info_checks false bytes)

-- the checks of a header, in their order, each with its refusal; the size is its first unit, the
-- byte of the order its ninth
unfoldable pub header_checks : Bool → List ℕ → List (Bool × Refusal)
header_checks any bytes =
    (nat_le 24 (length bytes), invalid (codes "input is too short to contain file header"))
    ∷ (
      bytes_eq (slice_range bytes 2 4) (0xda ∷ 0x27 ∷ []),
      invalid (codes "magic word does not match"),
    )
    ∷ info_checks any (drop 4 bytes)
    ++ (
      nat_le 24 (unit_in (nat_eq (slice_index bytes 8) 1) bytes 0),
      invalid (codes "header size specified in file is smaller than expected"),
    )
    ∷ []

-- the first check of a header that fails
unfoldable pub header_refusal : Bool → List ℕ → Option Refusal
header_refusal any bytes = first_refusal (header_checks any bytes)

-- the checks of an index, which is the words behind the root's descriptor, in their order, each
-- with its refusal
unfoldable pub index_checks : List ℕ → List (Bool × Refusal)
index_checks bytes =
    let count = slice_index (words_of bytes) 0 in
    (nat_le 4 (length bytes), end_of_input)
    ∷ (nat_le 5 count, invalid (codes "invalid index field count"))
    ∷ (nat_le (4 * min count 8) (length bytes), end_of_input)
    ∷ []

-- the first check of an index that fails
unfoldable pub index_refusal : List ℕ → Option Refusal
index_refusal bytes = first_refusal (index_checks bytes)

-- the checks of a file's characters, in their order, in its representation info
abbrev pub character_checks : List ℕ → List (Bool × Refusal)
character_checks info = (
  nat_eq (slice_index info 5) 0,
  unsupported (codes "bundle and system character set families do not match"),
)
    ∷ (
      nat_eq (slice_index info 6) 2,
      unsupported (codes "characters of size other than 2 are not supported"),
    )
    ∷ []

-- the checks of what is supported, in their order: what the info of a file that is read may say
unfoldable pub support_checks : List ℕ → List (Bool × Refusal)
support_checks info =
    character_checks info
    ++ (
      bytes_eq (slice_range info 12 16) (2 ∷ 0 ∷ 0 ∷ 0 ∷ []),
      unsupported (codes "format versions other than 2.0 are not supported at this time"),
    )
    ∷ []

-- the checks of the blocks: they lie inside the body, one behind the other, by ends that are in
-- words
unfoldable pub block_checks : List ℕ → List (Bool × Refusal)
block_checks body =
    let field : ℕ → ℕ = λ i. slice_index (words_of body) i in
    (nat_le (4 * field 2) (length body), end_of_input)
    ∷ (nat_le 7 (field 1), invalid (codes "offset to the end of 16-bit data not specified"))
    ∷ (nat_le (field 2) (field 7) && nat_le (4 * field 7) (length body), end_of_input)
    ∷ []

-- the checks of a body: of its root's word, its index and its blocks
unfoldable pub body_checks : List ℕ → List (Bool × Refusal)
body_checks body =
    (nat_le 4 (length body), end_of_input) ∷ (index_checks (drop 4 body) ++ block_checks body)

-- all checks of a file, in their order; a header that is longer than the file leaves no body
unfoldable pub file_checks : List ℕ → List (Bool × Refusal)
file_checks bytes =
    header_checks false bytes ++ (support_checks (drop 4 bytes) ++ body_checks (body_of bytes))

-- the first check of a whole file's head that fails, with its kind and message
unfoldable pub file_refusal : List ℕ → Option Refusal
file_refusal bytes = first_refusal (file_checks bytes)
