-- Distinct texts in suffix order. T are the texts; each goes by its index there.
--     AreInOrder way T rows   the rows are the texts T, in suffix order in a file packed this way
--     last_digits t           the first 16 digits of the characters of t, from its end, as a number
--     TellsEnd answer t s     the answer is whether t ends with s, if s has few digits
--     IsSharedEnd p s         s may lie in the record of p
use Rattle.std.specs.Prelude.{◌≡◌, ℕ, zero, suc, ◌+◌, ◌*◌, ◌^◌, ◌<◌, List, [], ◌∷◌, length, map}
use Rattle.std.specs.Prelude.{All, Bool, true, ◌-◌, ◌/◌, ◌%◌, ◌≤◌, nat_le, if◌then◌else◌}
use Rattle.std.specs.List.{flat_map}
use Rattle.std.specs.List.Sorted.{IsPermutation, IsSorted}
use Rattle.std.specs.Ordering.{nat_cmp, ordering_then}
use Rattle.std.specs.declared.cmp.Ordering.{Ordering}
use Rattle.resb_format.specs.Units.{is_unmarked}
use Rattle.resb_pool.specs.Order.{suffix_cmp}
use Rattle.resb_pool.specs.Records.{EndsWith}
use Rattle.resb_pool.specs.Inner.Cuts.{chars_backwards}
use Rattle.resb_pool.specs.Inner.Placing.{indexed_text}
use Rattle.resb_pool.specs.declared.packing.Packing.{Packing}
use Rattle.resb_pool.specs.declared.packing.Packing.TheVariants.{Plain}
use Rattle.resb_pool.specs.declared.suffix_order.Row.{Row}
use Rattle.resb_pool.specs.declared.suffix_order.EndKey.{EndKey}

-- a character as digits of eight bits, none of them 255: itself, where it is ASCII, else three, the
-- first of which is above ASCII
abbrev pub char_digits : ℕ → List ℕ
char_digits c =
    if nat_le c 0x7f then c ∷ []
    else (0x80 + c / 0x4000) ∷ (c / 0x80 % 0x80) ∷ (c % 0x80) ∷ []

-- the digits of a text's characters, last first
abbrev pub digits_backwards : List ℕ → List ℕ
digits_backwards t = flat_map char_digits (chars_backwards t)

-- a number in front of the first n digits; the end of the digits, which is the greatest digit,
-- stands in the place of those that aren't there
abbrev pub key_of_digits : ℕ → ℕ → List ℕ → ℕ
key_of_digits number zero ds = number
key_of_digits number (suc n) [] = key_of_digits (number * 256 + 255) n []
key_of_digits number (suc n) (d ∷ ds) = key_of_digits (number * 256 + d) n ds

-- the first 16 digits of a text's characters, last first, as a number
abbrev pub last_digits : List ℕ → ℕ
last_digits t = key_of_digits 0 16 (digits_backwards t)

-- what a number of n digits stays below
abbrev pub digits_bound : ℕ → ℕ
digits_bound zero = 1
digits_bound (suc n) = digits_bound n * 256

-- as many digits of 16 as aren't left
pub record IsPart (k : EndKey) : Type 0 where
  pub most : k.left ≤ 16
  pub small : k.number < digits_bound (16 - k.left)

-- a row's two halves as one number
abbrev pub row_key : Row → ℕ
row_key r = r.last * 0x1_0000_0000_0000_0000 + r.before

-- the text of a row
abbrev pub row_text : List (List ℕ) → Row → List ℕ
row_text T r = indexed_text T r.index

-- the row has the first 16 digits of the text of its index, in two halves, and how many of them
-- stand behind the text's end
pub record IsKeyed (T : List (List ℕ)) (r : Row) : Type 0 where
  pub key_is : row_key r ≡ key_of_digits 0 16 (digits_backwards (row_text T r))
  pub small : r.before < 2 ^ 64
  pub left_is : r.left ≡ 16 - length (digits_backwards (row_text T r))

-- the row of a text
pub record IsRowOf (T : List (List ℕ)) (r : Row) : Type 0 where
  pub within : r.index < length T
  pub keyed : IsKeyed T r

-- the texts of rows, in the order of these
abbrev pub row_texts : List (List ℕ) → List Row → List (List ℕ)
row_texts T rows = map (row_text T) rows

-- by all letters
abbrev pub row_cmp : Packing → List (List ℕ) → Row → Row → Ordering
row_cmp way T x y = suffix_cmp way (row_text T x) (row_text T y)

-- by the first 16 digits, and then by all characters
abbrev pub keyed_cmp : List (List ℕ) → Row → Row → Ordering
keyed_cmp T x y = ordering_then (nat_cmp x.last y.last)
    (ordering_then (nat_cmp x.before y.before) (row_cmp Plain T x y))

pub record AreInOrder (way : Packing) (T : List (List ℕ)) (rows : List Row) : Type 0 where
  pub all : IsPermutation T (row_texts T rows)
  pub each : All (IsRowOf T) rows
  pub ascend : IsSorted (row_cmp way T) rows

-- yes, where t ends with s; and only there, where s has fewer than 16 digits
pub record TellsEnd (answer : Bool) (t s : List ℕ) : Type 0 where
  pub yes : EndsWith t s → answer ≡ true
  pub only : answer ≡ true → length (digits_backwards s) < 16 → EndsWith t s

-- s has fewer than 16 digits, isn't empty and has no marker
pub record IsWholeInRow (s : List ℕ) : Type 0 where
  pub few : length (digits_backwards s) < 16
  pub nonempty : 0 < length s
  pub unmarked : is_unmarked s ≡ true

-- s isn't empty, has no marker and ends the text p
pub record IsSharedEnd (p s : List ℕ) : Type 0 where
  pub nonempty : 0 < length s
  pub ends : EndsWith p s
  pub unmarked : is_unmarked s ≡ true

-- s isn't empty and ends the text p
pub record IsEnd (p s : List ℕ) : Type 0 where
  pub nonempty : 0 < length s
  pub ends : EndsWith p s
