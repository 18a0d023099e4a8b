-- The orders of texts in a file that is packed one way or the other: from their ends, in which a
-- shared suffix finds its record, and from their starts. A text is its UTF-8 bytes.
--     letters way t           what such a file compares of a text from its end
--     suffix_cmp way s t      compares the letters, last first; the end of a text is the greatest
--     start_cmp way s t       compares from the start; the end of a text is the least
use Rattle.std.specs.Prelude.{ℕ, List, [], ◌∷◌, reverse}
use Rattle.std.specs.Cmp.Lexicographic.{slice_cmp}
use Rattle.std.specs.Str.{chars}
use Rattle.std.specs.Ordering.{nat_cmp, ordering_then}
use Rattle.std.specs.declared.cmp.Ordering.{Ordering}
use Rattle.std.specs.declared.cmp.Ordering.TheVariants.{Less, Equal, Greater}
use Rattle.resb_format.specs.Units.{units}
use Rattle.resb_pool.specs.declared.packing.Packing.{Packing}
use Rattle.resb_pool.specs.declared.packing.Packing.TheVariants.{Plain, Compact}

-- member by member, the end of a list being the greatest
abbrev pub end_last_cmp : List ℕ → List ℕ → Ordering
end_last_cmp [] [] = Equal
end_last_cmp [] (y ∷ ys) = Greater
end_last_cmp (x ∷ xs) [] = Less
end_last_cmp (x ∷ xs) (y ∷ ys) = ordering_then (nat_cmp x y) (end_last_cmp xs ys)

-- a plain file compares a text's characters, and a compact one its 16-bit units
abbrev pub letters : Packing → List ℕ → List ℕ
letters Plain t = chars t
letters Compact t = units t

-- the order of two texts by their letters from the end, the end of a text being the greatest
abbrev pub suffix_cmp : Packing → List ℕ → List ℕ → Ordering
suffix_cmp way s t = end_last_cmp (reverse (letters way s)) (reverse (letters way t))

-- the order of two texts from the start: in a plain file by their bytes, and in a compact one by
-- their 16-bit units, the end of a text being the least
abbrev pub start_cmp : Packing → List ℕ → List ℕ → Ordering
start_cmp Plain s t = slice_cmp nat_cmp s t
start_cmp Compact s t = slice_cmp nat_cmp (units s) (units t)
