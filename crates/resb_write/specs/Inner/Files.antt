-- The bytes of a file, around its parts.
--     file_of root n f ks us tail     of a root word, a largest table, a flag, a key block, a
--                                     16-bit block and the tail behind it
--     file_with c, FitsFile c         of what is put together, and whether its places fit
use Rattle.std.specs.Prelude.{◌≡◌, ℕ, ◌+◌, ◌%◌, ◌/◌, ◌<◌, ◌^◌, List, [], ◌∷◌, ◌++◌, length}
use Rattle.std.specs.Prelude.{Bool, if◌then◌else◌}
use Rattle.resb_pool.specs.Plan.{nows}
use Rattle.resb_layout.specs.Laid.{words}
use Rattle.resb_format.specs.Bytes.{units_as_bytes}
use Rattle.resb_layout.specs.KeyBlock.{key_bytes, padded}
use Rattle.resb_layout.specs.WrittenHead.{written_header}
use Rattle.resb_layout.specs.Written.{even}
use Rattle.resb_write.specs.declared.file.FileParts.{FileParts}

-- the 7 fields of the index, where the key block, the 16-bit block and the tail have k, b and d
-- words
abbrev pub index_fields : ℕ → ℕ → ℕ → ℕ → ℕ → List ℕ
index_fields k b d largest attributes =
    7 ∷ (8 + k) ∷ (8 + k + b + d) ∷ (8 + k + b + d) ∷ largest ∷ attributes ∷ (8 + k + b) ∷ []

abbrev pub fields_of : ℕ → Bool → List ℕ → List ℕ → List ℕ → List ℕ
fields_of largest fallback keys us tail =
    index_fields (length keys / 4) (length us / 2) (length tail / 4) largest
    (if fallback then 0 else 1)

abbrev pub file_of : ℕ → ℕ → Bool → List ℕ → List ℕ → List ℕ → List ℕ
file_of root largest fallback keys us tail =
    written_header ++ (words (root ∷ fields_of largest fallback keys us tail)
    ++ (keys ++ (units_as_bytes us ++ tail)))

abbrev pub keys_in_file : FileParts → List ℕ
keys_in_file c = padded (key_bytes (nows c.keys.now))

abbrev pub units_in_file : FileParts → List ℕ
units_in_file c = even c.bodies.now.units.items

abbrev pub index_words_of : FileParts → List ℕ
index_words_of c =
    fields_of c.largest_table c.is_locale_fallback_enabled (keys_in_file c) (units_in_file c)
    c.bodies.now.tail.items

abbrev pub file_with : FileParts → List ℕ
file_with c =
    file_of c.root c.largest_table c.is_locale_fallback_enabled (keys_in_file c) (units_in_file c)
    c.bodies.now.tail.items

pub record FitsFile (c : FileParts) : Type 0 where
  pub keys : length (key_bytes (nows c.keys.now)) < 2 ^ 28
  pub units : length c.bodies.now.units.items < 2 ^ 28
  pub tail : length c.bodies.now.tail.items < 2 ^ 30
  pub whole : length c.bodies.now.tail.items % 4 ≡ 0
