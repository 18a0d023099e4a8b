-- What a view shows: its bytes, and the units or words that they spell.
use Rattle.std.specs.Prelude.{ℕ, List}
use Rattle.resb_format.specs.Bytes.{units_of, words_of}
use Rattle.resb_format.specs.declared.views.utf16.Utf16View.{Utf16View}
use Rattle.resb_format.specs.declared.views.words.WordView.{WordView}
use Rattle.resb_format.specs.declared.views.numbers.I32View.{I32View}
use Rattle.resb_format.specs.declared.views.pairs.PairView.{PairView}

-- the bytes under a view of units
abbrev pub unit_bytes : Utf16View → List ℕ
unit_bytes v = v.bytes.now

-- the units that a view shows
abbrev pub view_units : Utf16View → List ℕ
view_units v = units_of (unit_bytes v)

-- the bytes under a view of words
abbrev pub word_bytes : WordView → List ℕ
word_bytes v = v.bytes.now

-- the words that a view shows
abbrev pub view_words : WordView → List ℕ
view_words v = words_of (word_bytes v)

-- the bytes under a view of signed numbers
abbrev pub number_bytes : I32View → List ℕ
number_bytes v = v.bytes.now

-- the words whose bits are the signed numbers
abbrev pub number_words : I32View → List ℕ
number_words v = words_of (number_bytes v)

-- the bytes under a view of pairs of signed numbers
abbrev pub pair_bytes : PairView → List ℕ
pair_bytes v = v.bytes.now

-- the words whose bits are the signed numbers, two for each pair
abbrev pub pair_words : PairView → List ℕ
pair_words v = words_of (pair_bytes v)
