-- Parts of bytes, of units and of words, that lie inside or don't.
use Rattle.std.proofs.Common.{ℕ, List, ◌≡◌, ◌+◌, ◌*◌, ◌/◌, ◌<◌, ◌≤◌, length, take, drop, Some, None}
use Rattle.std.proofs.Common.{sym, ap, ◌∙◌, arith}
use Rattle.std.proofs.lemmas.Bool.Decides.{nat_tests}
use Rattle.std.proofs.lemmas.Option.{slice_get_past}
use Rattle.resb_format.specs.Bytes.{units_of, words_of, part}
use Rattle.resb_format.proofs.Spelled.{units_length, units_part, words_length, words_part}
use Rattle.resb_format.proofs.Lists.{get_inside}

-- a part past the end is none
pub part_past : (xs : List ℕ) (i n : ℕ) → length xs < i + n → part xs i n ≡ None
part_past xs i n h = grind (arith, nat_tests)

-- a part that lies inside is cut out
pub part_in : (xs : List ℕ) (i n : ℕ) → i + n ≤ length xs → part xs i n ≡ Some (take n (drop i xs))
part_in xs i n h = grind (arith, nat_tests)

pub ruleset part_cut = (part_in, part_past)

pub words_inside : (bs : List ℕ) (i n : ℕ) → i + n ≤ length bs / 4
    → part (words_of bs) i n ≡ Some (words_of (take (4 * n) (drop (4 * i) bs)))
words_inside bs i n h =
    part_in (words_of bs) i n (omega (arith, words_length bs)) ∙ ap Some (sym (words_part bs i n))

pub words_outside : (bs : List ℕ) (i n : ℕ) → length bs / 4 < i + n → part (words_of bs) i n ≡ None
words_outside bs i n h = part_past (words_of bs) i n (omega (arith, words_length bs))

pub units_inside : (bs : List ℕ) (i n : ℕ) → i + n ≤ length bs / 2
    → part (units_of bs) i n ≡ Some (units_of (take (2 * n) (drop (2 * i) bs)))
units_inside bs i n h =
    part_in (units_of bs) i n (omega (arith, units_length bs)) ∙ ap Some (sym (units_part bs i n))

pub units_outside : (bs : List ℕ) (i n : ℕ) → length bs / 2 < i + n → part (units_of bs) i n ≡ None
units_outside bs i n h = part_past (units_of bs) i n (omega (arith, units_length bs))

-- what one number asked for by its place is
pub ruleset one_unit = (units_length, get_inside, slice_get_past)

pub ruleset one_word = (words_length, get_inside, slice_get_past)

-- what a part is
pub ruleset units_cut = (units_inside, units_outside, units_length)

pub ruleset words_cut = (words_inside, words_outside, words_length)
