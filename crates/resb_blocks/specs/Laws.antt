-- What the laws of this crate say.
--     RangesByLinks           which parts of a block are texts
--     KeysInKeys              which places in a key have a key
--     WidthsOfTexts           how many bytes of UTF-8 a text's units take
use Rattle.std.specs.Prelude.{◌≡◌, ℕ, ◌+◌, ◌-◌, ◌<◌, ◌≤◌, ◌↔◌, List, length, take, drop}
use Rattle.std.specs.Prelude.{slice_index, encode_utf8_all}
use Rattle.std.specs.Prelude.{false, Some}
use Rattle.std.specs.Char.Utf16.{is_high_surrogate, is_low_surrogate, utf16_lossy_chars}
use Rattle.std.specs.Str.{IsCharBoundary}
use Rattle.resb_format.specs.Strings.{key_at}
use Rattle.resb_blocks.specs.Links.{AreLinked, IsWellFormed}
use Rattle.resb_blocks.specs.Wide.{text_width}

-- a part of a list of units is well-formed exactly where its first unit ends no pair, its last one
-- begins none, and its neighbours are linked
abbrev pub RangesByLinks : Type 0
RangesByLinks =
    (us : List ℕ) (from count : ℕ) → from + count ≤ length us → 0 < count
    → IsWellFormed (take count (drop from us))
    ↔ ((is_low_surrogate (slice_index us from) ≡ false)
    × (is_high_surrogate (slice_index us (from + count - 1)) ≡ false)
    × AreLinked us from (from + count))

-- where a key stands, its end from a byte on is a key exactly where a character begins there
abbrev pub KeysInKeys : Type 0
KeysInKeys =
    (keys t : List ℕ) (from k : ℕ) → key_at keys from ≡ Some t → k ≤ length t
    → (IsCharBoundary t k → key_at keys (from + k) ≡ Some (drop k t))
    × ((s : List ℕ) → key_at keys (from + k) ≡ Some s → IsCharBoundary t k)

-- the text of well-formed units has as many bytes of UTF-8 as the units take, one by one
abbrev pub WidthsOfTexts : Type 0
WidthsOfTexts =
    (us : List ℕ) → IsWellFormed us
    → length (encode_utf8_all (utf16_lossy_chars us)) ≡ text_width us
