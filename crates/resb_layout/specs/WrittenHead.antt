-- The header and the index of a written file. (ICU's `ucmndata.h`, `udata.h` and `uresdata.h`.)
--     header_of version       the 32 bytes that a file of this version begins with
--     written_header          those of a file that uses no pool
--     IndexOf bytes t f       the index is that of a bundle of the tree t, with locale fallback or
--                             not
use Rattle.std.specs.Prelude.{◌≡◌, ℕ, ◌*◌, List, [], ◌∷◌, length, take, Bool, if◌then◌else◌}
use Rattle.resb_tree.specs.Tree.{Tree, largest_table}
use Rattle.resb_head.specs.File.{body_of, body_word, field_count, attributes}

-- 32 bytes of header, of which 20 are the info: little-endian, ASCII, two bytes a unit, `ResB`,
-- the format version with this first number and 0 behind it, data version 1.4
abbrev pub header_of : ℕ → List ℕ
header_of version =
    32 ∷ 0 ∷ 0xda ∷ 0x27 ∷ 20 ∷ 0 ∷ 0 ∷ 0 ∷ 0 ∷ 0 ∷ 2 ∷ 0 ∷ 0x52 ∷ 0x65 ∷ 0x73 ∷ 0x42
    ∷ version ∷ 0 ∷ 0 ∷ 0 ∷ 1 ∷ 4 ∷ 0 ∷ 0 ∷ 0 ∷ 0 ∷ 0 ∷ 0 ∷ 0 ∷ 0 ∷ 0 ∷ 0 ∷ []

-- the header of format version 2.0
abbrev pub written_header : List ℕ
written_header = header_of 2

-- the written header, seven fields, both ends at the body's end, the largest table, and the
-- fallback flag
pub record IndexOf (bytes : List ℕ) (t : Tree) (fallback : Bool) : Type 0 where
  pub header : take 32 bytes ≡ written_header
  pub fields : field_count bytes ≡ 7
  -- the index's third and fourth word: where the resources and the bundle end, in words
  pub resources : 4 * body_word bytes 3 ≡ length (body_of bytes)
  pub bundle : 4 * body_word bytes 4 ≡ length (body_of bytes)
  -- its fifth word: how many entries the largest table has
  pub largest : body_word bytes 5 ≡ largest_table t
  pub no_fallback : attributes bytes ≡ (if fallback then 0 else 1)
