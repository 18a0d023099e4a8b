-- Strings among the units that bytes spell: where they lie inside, and where they are cut.
use Rattle.std.proofs.Common.{ℕ, List, ◌≡◌, ◌+◌, ◌-◌, ◌/◌, ◌<◌, ◌≤◌, ◌⊎◌, inl}
use Rattle.std.proofs.Common.{inr, length, take, drop, Some, None, refl, sym, ap, ◌∙◌, arith}
use Rattle.std.proofs.Common.{nat_eq, min, get_or, codes, length-drop}
use Rattle.std.specs.List.{position_or_len}
use Rattle.std.proofs.lemmas.List.{get_or_past, drop_all}
use Rattle.std.proofs.lemmas.Bool.Decides.{nat_tests}
use Rattle.resb_format.specs.Bytes.{units_of, part}
use Rattle.resb_format.specs.Error.{end_message}
use Rattle.resb_format.specs.Strings.{before_zero, string_from, string_at}
use Rattle.resb_format.specs.StringMessage.{string_message}
use Rattle.resb_format.proofs.Inside.{units_outside}
use Rattle.resb_format.proofs.Spelled.{units_length}
use Rattle.resb_format.proofs.Lists.{take_within}

pub part_inside : (bs : List ℕ) (i n : ℕ) → i + n ≤ length bs / 2
    → part (units_of bs) i n ≡ Some (take n (drop i (units_of bs)))
part_inside bs i n h = grind (arith, nat_tests, units_length bs)

pub ruleset string_units_cut = (part_inside, units_outside)

-- the second unit of a marker is missing
pub second_unit_missing : (bs : List ℕ) (u first : ℕ) → 0xdfee < first → first ≤ 0xdfff
    → length bs / 2 ≤ u + 1 → string_from (units_of bs) u first ≡ None
second_unit_missing bs u first g h k = grind (arith, nat_tests, units_length bs)

-- the third unit of a marker is missing
pub third_unit_missing : (bs : List ℕ) (u first : ℕ) → 0xdffe < first → first ≤ 0xdfff
    → length bs / 2 ≤ u + 2 → string_from (units_of bs) u first ≡ None
third_unit_missing bs u first g h k = grind (arith, nat_tests, units_length bs)

pub ruleset marker_unit_missing = (second_unit_missing, third_unit_missing)

-- a string that a 0 ends
pub ends_at_zero : (us : List ℕ) → position_or_len (λ x. nat_eq x 0) us < length us
    → before_zero us ≡ Some (take (position_or_len (λ x. nat_eq x 0) us) us)
ends_at_zero us h = grind (arith, nat_tests)

-- a string that no 0 ends
pub lacks_zero : (us : List ℕ) → length us ≤ position_or_len (λ x. nat_eq x 0) us
    → before_zero us ≡ None
lacks_zero us h = grind (arith, nat_tests)

-- the first 41 units from the uth on, of which so many are left
pub window_is : (bs : List ℕ) (u : ℕ) (us : List ℕ)
    → us ≡ take (min (length bs / 2 - u) 41) (drop u (units_of bs))
    → us ≡ take 41 (drop u (units_of bs))
window_is bs u us h =
    let e : length bs / 2 - u ≡ length (drop u (units_of bs)) =
    ap (λ n. n - u) (sym (units_length bs)) ∙ sym (length-drop u (units_of bs)) in
    h ∙ ap (λ n. take (min n 41) (drop u (units_of bs))) e ∙ take_within (drop u (units_of bs)) 41

-- past the end of the block
nothing_past : (us : List ℕ) (u : ℕ) → length us ≤ u → string_at us u ≡ None
unfolding string_at
nothing_past us u h = rw (get_or_past us u 0 h, drop_all u us h) refl

pub no_string : (bs : List ℕ) (u : ℕ) → length bs / 2 ≤ u
    → string_at (units_of bs) u ≡ None
no_string bs u h = nothing_past (units_of bs) u (omega (arith, units_length bs))

pub end_refused : (bs : List ℕ) (u : ℕ) → length bs / 2 ≤ u
    → string_message (units_of bs) u ≡ end_message
end_refused bs u h = grind (arith, nat_tests, units_length bs)

-- with a marker
pub at_marker : (us : List ℕ) (u first : ℕ) → first ≡ get_or us u 0
    → string_at us u ≡ string_from us u first
unfolding string_at
at_marker us u first e = rw e refl

pub marker_fault : (us : List ℕ) (u first : ℕ) → first ≡ get_or us u 0 → 0xdc00 ≤ first
    → first ≤ 0xdfff → string_message us u ≡ end_message
marker_fault us u first e g h = grind (arith, nat_tests)

-- without one
pub at_none : (us : List ℕ) (u first : ℕ) → first ≡ get_or us u 0
    → (first < 0xdc00) ⊎ (0xdfff < first) → string_at us u ≡ before_zero (take 41 (drop u us))
at_none us u first e h = at_marker us u first e ∙ no_marker us u first h
  where
    no_marker : (us : List ℕ) (u first : ℕ) → (first < 0xdc00) ⊎ (0xdfff < first)
        → string_from us u first ≡ before_zero (take 41 (drop u us))
    no_marker us u first (inl g) = grind (arith, nat_tests)
    no_marker us u first (inr g) = grind (arith, nat_tests)

pub none_fault : (us : List ℕ) (u first : ℕ) → first ≡ get_or us u 0
    → (first < 0xdc00) ⊎ (0xdfff < first) → u < length us
    → string_message us u ≡ codes "unterminated string with implicit length"
none_fault us u first e (inl g) h = grind (arith, nat_tests)
none_fault us u first e (inr g) h = grind (arith, nat_tests)
