-- The widths of units, summed part by part, and those of a text.
use Rattle.std.proofs.Common.{ℕ, zero, suc, List, [], ◌∷◌, ◌++◌, ◌≡◌, ◌+◌, ◌-◌, ◌*◌, ◌/◌, ◌<◌, ◌≤◌}
use Rattle.std.proofs.Common.{◌⊎◌, inl}
use Rattle.std.proofs.Common.{inr, Bool, true, false, length, get_or, take, drop, refl, sym, ap}
use Rattle.std.proofs.Common.{◌∙◌, ◌||◌}
use Rattle.std.proofs.Common.{arith, length-append, length-drop, encode_utf8_all}
use Rattle.std.proofs.Math.ListN.{get_or-append}
use Rattle.std.proofs.Math.Seq.{get_or-append_seam, take-nil}
use Rattle.std.proofs.Math.Utf8.{encode}
use Rattle.std.proofs.lemmas.Bool.{cases_lt}
use Rattle.std.proofs.lemmas.Bool.Decides.{nat_tests}
use Rattle.std.proofs.lemmas.List.{get_or-drop, take_more, length-take}
use Rattle.std.proofs.lemmas.List.Sums.{sum_by-cons, sum_by_push}
use Rattle.std.proofs.lemmas.Str.{length-encode, len_utf8_bounds}
use Rattle.std.specs.Char.{len_utf8}
use Rattle.std.specs.Char.Utf16.{is_high_surrogate, is_low_surrogate, utf16_chars}
use Rattle.std.specs.Char.Utf16.{utf16_lossy_chars, surrogate_pair_char}
use Rattle.resb_blocks.specs.Links.{IsWellFormed}
use Rattle.resb_blocks.specs.Wide.{width_of, text_width, AreSummed}
use Rattle.resb_blocks.proofs.Surrogates.{plain_first, pair_first, low_first, high_alone, high_last}
use Rattle.resb_blocks.proofs.Surrogates.{plain_chars, pair_chars}

-- one unit more
pub width_more : (us : List ℕ) (from n : ℕ) → from + n < length us
    → text_width (take (n + 1) (drop from us))
    ≡ text_width (take n (drop from us)) + width_of (get_or us (from + n) 0)
width_more us from n inside =
    let within : n < length (drop from us) = omega (arith, inside, length-drop from us) in
    ap text_width (take_more (drop from us) n 0 within)
    ∙ sum_by_push width_of (take n (drop from us)) (get_or (drop from us) n 0)
    ∙ ap (λ u. text_width (take n (drop from us)) + width_of u) (get_or-drop from us n 0)

pub width_none : (us : List ℕ) (from : ℕ) → 0 ≡ text_width (take 0 (drop from us))
width_none us from = refl

-- of a front, and of what is behind it
pub front_behind : (us : List ℕ) (m n : ℕ)
    → text_width (take (m + n) us) ≡ text_width (take m us) + text_width (take n (drop m us))
front_behind us zero n = let e : 0 + n ≡ n = omega arith in rw e (omega arith)
front_behind [] (suc m) n =
    let whole : text_width (take {A = ℕ} (suc m + n) []) ≡ 0 = ap text_width (take-nil (suc m + n))
    in
    let behind : text_width (take {A = ℕ} n []) ≡ 0 = ap text_width (take-nil n) in
    omega (arith, whole, behind)
front_behind (u ∷ us) (suc m) n =
    let more = front_behind us m n in
    let whole = sum_by-cons width_of u (take (m + n) us) in
    let front = sum_by-cons width_of u (take m us) in
    let e : suc m + n ≡ suc (m + n) = omega arith in
    rw e (omega (arith, more, whole, front))

-- of a part, by the fronts before it and up to its end
pub part_is_wide : (us : List ℕ) (from n whole front : ℕ) → whole ≡ text_width (take (from + n) us)
    → front ≡ text_width (take from us)
    → (front ≤ whole) × (whole - front ≡ text_width (take n (drop from us)))
part_is_wide us from n whole front e f =
    let sum = front_behind us from n in (omega (arith, e, f, sum), omega (arith, e, f, sum))

-- no unit takes more than 4 bytes
at_most : (u : ℕ) → width_of u ≤ 4
at_most u =
    let four = (len_utf8_bounds u).1 in
    cases (is_high_surrogate u || is_low_surrogate u) refl four
  where
    cases : (b : Bool) → is_high_surrogate u || is_low_surrogate u ≡ b → len_utf8 u ≤ 4
        → width_of u ≤ 4
    cases true e four = rw e (omega arith)
    cases false e four = rw e four

all_at_most : (us : List ℕ) → text_width us ≤ 4 * length us
all_at_most [] = omega arith
all_at_most (u ∷ us) =
    omega (arith, sum_by-cons width_of u us, at_most u, all_at_most us)

pub front_at_most : (us : List ℕ) (n : ℕ) → text_width (take n us) ≤ 4 * n
front_at_most us n = omega (arith, all_at_most (take n us), length-take n us)

-- the sum at a unit, by the one at the step before it
pub at_step : (us ns : List ℕ) (unit front behind : ℕ) → AreSummed us ns
    → unit / 64 < length ns → front ≡ get_or ns (unit / 64) 0
    → behind ≡ text_width (take (unit - 64 * (unit / 64)) (drop (64 * (unit / 64)) us))
    → (front + behind ≡ text_width (take unit us)) × (front + behind ≤ 4 * unit)
at_step us ns unit front behind h within e f =
    let sum = front_behind us (64 * (unit / 64)) (unit - 64 * (unit / 64)) in
    let whole : 64 * (unit / 64) + (unit - 64 * (unit / 64)) ≡ unit = omega arith in
    let there = rw whole at sum in
    let first = h (unit / 64) within in
    (omega (arith, e, f, there, first), omega (arith, e, f, there, first, front_at_most us unit))

-- one sum more
pub summed_push : (us ns : List ℕ) (total : ℕ) → AreSummed us ns
    → total ≡ text_width (take (64 * length ns) us) → AreSummed us (ns ++ total ∷ [])
summed_push us ns total h e k l = cases (cases_lt k (length ns))
  where
    cases : (k < length ns) ⊎ (length ns ≤ k)
        → get_or (ns ++ total ∷ []) k 0 ≡ text_width (take (64 * k) us)
    cases (inl a) = get_or-append ns (total ∷ []) 0 k a ∙ h k a
    cases (inr a) =
        let s : length ns ≡ k = omega (arith, l, length-append ns (total ∷ [])) in
        rw (← s) (get_or-append_seam ns total [] 0 ∙ e)

pub summed_none : (us : List ℕ) → AreSummed us []
summed_none us k l = absurd (omega (arith, l))

-- a unit by its size
pub width_one : (u : ℕ) → u < 0x80 → 1 ≡ width_of u
width_one u h = grind (arith, nat_tests, h)

pub width_three : (u : ℕ) → u < 0x1_0000 → 0x800 ≤ u → is_high_surrogate u ≡ false
    → is_low_surrogate u ≡ false → 3 ≡ width_of u
width_three u h g e f = rw (e, f) (grind (arith, nat_tests, h, g))

-- the bytes of a text's characters are those of its units
plain_width : (u : ℕ) → is_high_surrogate u ≡ false → is_low_surrogate u ≡ false
    → width_of u ≡ len_utf8 u
plain_width u h l = rw (h, l) refl

pair_width : (u v : ℕ) → is_high_surrogate u ≡ true → is_low_surrogate v ≡ true
    → len_utf8 (surrogate_pair_char u v) ≡ width_of u + width_of v
pair_width u v h l = grind (arith, nat_tests, h, l)

-- the bytes of one character more
one_char : (c : ℕ) (cs : List ℕ)
    → length (encode_utf8_all (c ∷ cs)) ≡ len_utf8 c + length (encode_utf8_all cs)
one_char c cs = omega (arith, length-append (encode c) (encode_utf8_all cs), length-encode c)

no_chars : length (encode_utf8_all (utf16_lossy_chars [])) ≡ text_width []
unfolding utf16_chars
no_chars = refl

abbrev text_len : List ℕ → ℕ
text_len us = length (encode_utf8_all (utf16_lossy_chars us))

first_plain : (u : ℕ) (us : List ℕ) → is_high_surrogate u ≡ false → is_low_surrogate u ≡ false
    → text_len us ≡ text_width us → text_len (u ∷ us) ≡ text_width (u ∷ us)
first_plain u us h l e =
    let chars = ap (λ cs. length (encode_utf8_all cs)) (plain_chars u us h l) in
    let one = one_char u (utf16_lossy_chars us) in
    let width = plain_width u h l in
    let sum = sum_by-cons width_of u us in
    omega (arith, chars, one, width, sum, e)

first_pair : (u v : ℕ) (us : List ℕ) → is_high_surrogate u ≡ true → is_low_surrogate v ≡ true
    → text_len us ≡ text_width us → text_len (u ∷ v ∷ us) ≡ text_width (u ∷ v ∷ us)
first_pair u v us h l e =
    let chars = ap (λ cs. length (encode_utf8_all cs)) (pair_chars u v us h l) in
    let one = one_char (surrogate_pair_char u v) (utf16_lossy_chars us) in
    let width = pair_width u v h l in
    let sum = sum_by-cons width_of u (v ∷ us) in
    let behind = sum_by-cons width_of v us in
    omega (arith, chars, one, width, sum, behind, e)

-- a text has as many bytes as its units take
pub text_is_wide : (us : List ℕ) → IsWellFormed us
    → length (encode_utf8_all (utf16_lossy_chars us)) ≡ text_width us
text_is_wide [] w = no_chars
text_is_wide (u ∷ []) w = cases (is_high_surrogate u) (is_low_surrogate u) refl refl
  where
    cases : (a b : Bool) → is_high_surrogate u ≡ a → is_low_surrogate u ≡ b
        → text_len (u ∷ []) ≡ text_width (u ∷ [])
    cases a true h l = absurd (let f = low_first u [] l in cc)
    cases true false h l = absurd (let f = high_last u h in cc)
    cases false false h l = first_plain u [] h l no_chars
text_is_wide (u ∷ v ∷ us) w =
    cases (is_high_surrogate u) (is_low_surrogate u) (is_low_surrogate v) refl refl refl
    (λ g. text_is_wide (v ∷ us) g) (λ g. text_is_wide us g)
  where
    cases : (a b c : Bool) → is_high_surrogate u ≡ a → is_low_surrogate u ≡ b
        → is_low_surrogate v ≡ c
        → (IsWellFormed (v ∷ us) → text_len (v ∷ us) ≡ text_width (v ∷ us))
        → (IsWellFormed us → text_len us ≡ text_width us)
        → text_len (u ∷ v ∷ us) ≡ text_width (u ∷ v ∷ us)
    cases a true c h l m one two = absurd (let f = low_first u (v ∷ us) l in cc)
    cases true false false h l m one two = absurd (let f = high_alone u v us h m in cc)
    cases true false true h l m one two =
        first_pair u v us h m (two (sym (pair_first u v us h m) ∙ w))
    cases false false c h l m one two =
        first_plain u (v ∷ us) h l (one (sym (plain_first u (v ∷ us) h l) ∙ w))
