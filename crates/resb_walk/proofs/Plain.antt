-- Texts of ASCII units, and strings without markers and surrogates.
use Rattle.std.proofs.Common.{ℕ, zero, suc, List, [], ◌∷◌, ◌≡◌, true, false, Some, inl, inr}
use Rattle.std.proofs.Common.{refl, sym, ap, ◌∙◌, arith, ◌<◌, ◌≤◌, ◌+◌, ◌*◌, min, length, take}
use Rattle.std.proofs.Common.{drop, get_or, set, nat_le, ◌++◌, nat_eq, IsAscii}
use Rattle.std.proofs.Common.{lit<, add-zero}
use Rattle.std.proofs.lemmas.Bool.{cases_lt}
use Rattle.std.proofs.lemmas.Bool.Decides.{nat_tests}
use Rattle.std.proofs.lemmas.List.{get_or-take, get_or-drop, length-take, take-take}
use Rattle.std.proofs.lemmas.List.{take_more_set, take_more, take-append-drop}
use Rattle.std.proofs.lemmas.Option.{cond_some}
use Rattle.std.proofs.lemmas.List.Sums.{position_or_len_is}
use Rattle.std.proofs.lemmas.Str.Ascii.{encodes-IsAscii}
use Rattle.std.proofs.lemmas.Str.{encodes-append}
use Rattle.std.specs.Char.Utf16.{is_high_surrogate, is_low_surrogate, has_unpaired_surrogate}
use Rattle.std.specs.Char.Utf16.{utf16_lossy_chars}
use Rattle.std.specs.List.{position_or_len}
use Rattle.resb_format.specs.Bytes.{units_of, part}
use Rattle.resb_format.specs.Strings.{text_at, string_at, before_zero, is_no_marker}
use Rattle.resb_format.proofs.Spelled.{units_drop}
use Rattle.resb_format.proofs.StringsIn.{ends_at_zero}
use Rattle.resb_walk.specs.Inner.Members.{text_of_bytes, AreUtf16}
use Rattle.resb_walk.proofs.Placed.{text_some}
use Rattle.resb_walk.proofs.Surrogates.{char_alone, plain_unit_first}
use Rattle.resb_walk.proofs.Surrogates.{nothing_is_unpaired}
use Rattle.resb_blocks.proofs.Surrogates.{lone_some}
use Rattle.resb_walk.proofs.Lists.{front_below}

-- ASCII units are their characters in front of others
ascii_front : (us vs : List ℕ) → IsAscii us
    → utf16_lossy_chars (us ++ vs) ≡ us ++ utf16_lossy_chars vs
ascii_front [] vs h = refl
ascii_front (u ∷ us) vs h =
    let small : u < 128 = h 0 in
    let high : is_high_surrogate u ≡ false = grind (arith, nat_tests, small) in
    let low : is_low_surrogate u ≡ false = grind (arith, nat_tests, small) in
    let more : utf16_lossy_chars (us ++ vs) ≡ us ++ utf16_lossy_chars vs =
    ascii_front us vs (λ k. h (suc k)) in
    char_alone ((u ∷ us) ++ vs) u (us ++ vs) refl high ∙ rw (lone_some u high low, more) refl

-- ASCII units and the text of those behind them are the text of all
pub ascii_behind : (bs rest run : List ℕ) (n : ℕ) → run ≡ take n (units_of bs)
    → rest ≡ drop (2 * n) bs → IsAscii run → run ++ text_of_bytes rest ≡ text_of_bytes bs
ascii_behind bs rest run n front left h =
    let there : units_of rest ≡ drop n (units_of bs) = ap units_of left ∙ units_drop bs n in
    let whole : run ++ units_of rest ≡ units_of bs =
    rw (front, there) (take-append-drop n (units_of bs)) in
    let chars : utf16_lossy_chars (units_of bs) ≡ run ++ utf16_lossy_chars (units_of rest) =
    ap utf16_lossy_chars (sym whole) ∙ ascii_front run (units_of rest) h in
    rw (chars, encodes-append, encodes-IsAscii run h) refl

-- one more unit is in the run
pub run_more : (us run : List ℕ) (k : ℕ) → k < length run → k < length us
    → take k run ≡ take k us → take (k + 1) (set run k (get_or us k 0)) ≡ take (k + 1) us
run_more us run k less within e =
    let u = get_or us k 0 in
    take_more_set run k u less ∙ ap (λ xs. xs ++ u ∷ []) e ∙ sym (take_more us k 0 within)

-- units below surrogates
below_paired : (us : List ℕ) → ((k : ℕ) → get_or us k 0 < 0xd800)
    → has_unpaired_surrogate us ≡ false
below_paired [] h = nothing_is_unpaired [] refl
below_paired (u ∷ us) h = plain_unit_first u us (h 0) ∙ below_paired us (λ k. h (suc k))

-- the units before a 0, of which none begins a marker
before_first_zero : (us : List ℕ) (n : ℕ) → n < 41 → n < length us
    → ((k : ℕ) → k < n → 0 < get_or us k 0) → get_or us n 0 ≡ 0
    → before_zero (take 41 us) ≡ Some (take n us)
before_first_zero us n few inside h e =
    let front = take 41 us in
    let long : length front ≡ min 41 (length us) = length-take 41 us in
    let within : n ≤ length front = omega arith in
    let less : n < length front = omega arith in
    let fails : (k : ℕ) → k < n → nat_eq (get_or front k 0) 0 ≡ false = λ k l.
    (let q : k < 41 = omega arith in let p = h k l in
    rw (get_or-take 41 us k 0 q) (grind (arith, nat_tests, p))) in
    let passes : nat_eq (get_or front n 0) 0 ≡ true =
    rw (get_or-take 41 us n 0 few, e) refl in
    let place : position_or_len (λ x. nat_eq x 0) front ≡ n =
    position_or_len_is (λ x. nat_eq x 0) front n 0 within fails (λ l. passes) in
    let inner : position_or_len (λ x. nat_eq x 0) front < length front = rw place less in
    let most : n ≤ 41 = omega arith in
    ends_at_zero front inner ∙ rw (place, take-take n 41 us most) refl

string_before : (us : List ℕ) (u n : ℕ) → n < 41 → n < length (drop u us)
    → ((k : ℕ) → k < n → 0 < get_or (drop u us) k 0)
    → ((k : ℕ) → k < n → get_or (drop u us) k 0 < 0xd800) → get_or (drop u us) n 0 ≡ 0
    → string_at us u ≡ Some (take n (drop u us))
unfolding string_at
string_before us u n few inside h g e =
    let same : get_or (drop u us) 0 0 ≡ get_or us u 0 = rw add-zero at (get_or-drop u us 0 0) in
    let small : get_or us u 0 < 0xd800 = rw (← same) (first n g e) in
    let unmarked : is_no_marker (get_or us u 0) ≡ true = grind (arith, nat_tests, small) in
    rw unmarked (before_first_zero (drop u us) n few inside h e)
  where
    first : (m : ℕ) → ((k : ℕ) → k < m → get_or (drop u us) k 0 < 0xd800)
        → get_or (drop u us) m 0 ≡ 0 → get_or (drop u us) 0 0 < 0xd800
    first zero p q = rw q (lit< tt)
    first (suc m) p q = p 0 (omega arith)

-- a text whose units end at a 0, and of which none is a surrogate
pub plain_text_is : (block from bs : List ℕ) (u n : ℕ) → from ≡ drop (2 * u) block → n < 41
    → n < length (units_of from)
    → ((k : ℕ) → k < n → 0 < get_or (units_of from) k 0)
    → ((k : ℕ) → k < n → get_or (units_of from) k 0 < 0xd800)
    → get_or (units_of from) n 0 ≡ 0 → units_of bs ≡ take n (units_of from)
    → text_at (units_of block) u ≡ Some (text_of_bytes bs)
plain_text_is block from bs u n is few inside h g e cut =
    let there : units_of from ≡ drop u (units_of block) = ap units_of is ∙ units_drop block u in
    let stands : string_at (units_of block) u ≡ Some (take n (drop u (units_of block))) =
    string_before (units_of block) u n few (rw (← there) inside)
    (λ k l. rw (← there) (h k l)) (λ k l. rw (← there) (g k l)) (rw (← there) e) in
    let spelled : take n (drop u (units_of block)) ≡ units_of bs =
    ap (take n) (sym there) ∙ sym cut in
    let paired : has_unpaired_surrogate (units_of bs) ≡ false =
    rw cut (below_paired (take n (units_of from))
    (front_below (units_of from) n 0xd800 (lit< tt) g)) in
    text_some (units_of block) u bs (stands ∙ ap Some spelled) (rw paired refl)

-- none of the units before it is a surrogate
pub plain_form : (from bs : List ℕ) (n : ℕ) → part (units_of from) 0 n ≡ Some (units_of bs)
    → length bs ≡ 2 * n
    → ((k : ℕ) → k < n
    → (0 < get_or (units_of from) k 0) × (get_or (units_of from) k 0 < 0xd800))
    → AreUtf16 bs
plain_form from bs n cut long h =
    let front = (cond_some (nat_le (0 + n) (length (units_of from))) _ _ cut).1 in (
      omega (arith, long),
      rw (sym front) (below_paired (take n (units_of from))
          (front_below (units_of from) n 0xd800 (lit< tt) (λ k l. (h k l).1))),
    )

-- the number behind those so far
pub plain_more : (us : List ℕ) (n most found : ℕ) → found ≡ get_or us n 0 → 0 < found
    → found < most
    → ((k : ℕ) → k < n → (0 < get_or us k 0) × (get_or us k 0 < most))
    → (k : ℕ) → k < n + 1 → (0 < get_or us k 0) × (get_or us k 0 < most)
plain_more us n most found e some small h k less = elim (cases_lt k n) [
  | inl before ↦ h k before
  | inr behind ↦
      let same : k ≡ n = omega arith in
      let here : get_or us k 0 ≡ found = ap (λ i. get_or us i 0) same ∙ sym e in
      rw here (some, small)
]

-- the 0 behind them
pub plain_ends : (block from bs : List ℕ) (u n : ℕ) → from ≡ drop (2 * u) block → n < 41
    → n < length (units_of from) → get_or (units_of from) n 0 ≡ 0
    → part (units_of from) 0 n ≡ Some (units_of bs)
    → ((k : ℕ) → k < n
    → (0 < get_or (units_of from) k 0) × (get_or (units_of from) k 0 < 0xd800))
    → text_at (units_of block) u ≡ Some (text_of_bytes bs)
plain_ends block from bs u n is few inside ends cut h =
    let front = (cond_some (nat_le (0 + n) (length (units_of from))) _ _ cut).1 in
    plain_text_is block from bs u n is few inside (λ k l. (h k l).0) (λ k l. (h k l).1) ends
    (sym front)
