-- What stands for a byte in a string of JSON, and hex digits there.
use Rattle.std.specs.Prelude.{◌≡◌, ℕ, ◌+◌, ◌-◌, ◌/◌, ◌%◌, ◌<◌, ◌≤◌, List, [], ◌∷◌, ◌++◌, length}
use Rattle.std.specs.Prelude.{take}
use Rattle.std.specs.Prelude.{drop, get_or, slice_range, slice_index, Bool, true, false}
use Rattle.std.specs.Char.{digit_char}
use Rattle.std.proofs.Common.{refl, sym, ap, ◌∙◌, arith, suc, append_assoc}
use Rattle.std.proofs.lemmas.Grind.{flat_map-append}
use Rattle.std.proofs.lemmas.Bool.{agree_below, agree_below_at}
use Rattle.std.proofs.lemmas.Bool.Decides.{nat_tests}
use Rattle.std.proofs.Math.Seq.{take-suc, drop-cons}
use Rattle.std.proofs.lemmas.List.{length-drop, get_or-drop}
use Rattle.hex.specs.Hex.{encode_lower, encode_with, lower_digits}
use Rattle.json.specs.Print.{escape_letter, escape_byte, escape}
use Rattle.resb_json.specs.Inner.Escapes.{is_escaped}

-- a byte with a letter is a backslash and that letter
pub escaped_by_letter : (b l : ℕ) → escape_letter b ≡ l → 0 < l → escape_byte b ≡ 92 ∷ l ∷ []
unfolding escape_byte
escaped_by_letter b l e h = rw e (grind (arith, nat_tests))

-- any other byte that is escaped is spelled by its number
pub escaped_by_number : (b : ℕ) → escape_letter b ≡ 0 → is_escaped b ≡ true
    → escape_byte b ≡ 92 ∷ 117 ∷ 48 ∷ 48 ∷ digit_char (b / 16) ∷ digit_char (b % 16) ∷ []
unfolding escape_byte
escaped_by_number b e h = rw e (grind (arith, nat_tests))

-- what isn't escaped stands for itself
pub plain_byte : (b : ℕ) → is_escaped b ≡ false → escape_byte b ≡ b ∷ []
unfolding escape_byte
plain_byte b h = grind (arith, nat_tests)

is_escaped_digit : ℕ → Bool
is_escaped_digit d = is_escaped (slice_index lower_digits d)

none_escaped : agree_below is_escaped_digit (λ _. false) 16 ≡ true
unfolding is_escaped_digit
none_escaped = refl

plain_digit : (d : ℕ) → d < 16
    → escape_byte (slice_index lower_digits d) ≡ slice_index lower_digits d ∷ []
unfolding is_escaped_digit
plain_digit d h =
    plain_byte (slice_index lower_digits d)
    (agree_below_at is_escaped_digit (λ _. false) 16 d none_escaped h)

-- each byte is in its range
abbrev pub AreBytes : List ℕ → Type 0
AreBytes bs = (k : ℕ) → k < length bs → slice_index bs k < 256

-- hex digits stand for themselves
pub plain_digits : (bs : List ℕ) → AreBytes bs → escape (encode_lower bs) ≡ encode_lower bs
unfolding encode_with
plain_digits [] low = refl
plain_digits (b ∷ bs) low =
    let l : b < 256 = low 0 (omega arith) in
    let high = slice_index lower_digits (b / 16) in
    let rest = slice_index lower_digits (b % 16) in
    ap (λ l. l ++ (escape_byte rest ++ escape (encode_lower bs)))
    (plain_digit (b / 16) (omega arith))
    ∙ ap (λ l. high ∷ (l ++ escape (encode_lower bs))) (plain_digit (b % 16) (omega arith))
    ∙ ap (λ l. high ∷ rest ∷ l) (plain_digits bs (λ k i. low (suc k) (omega arith)))

-- hex digits of two lists, one behind the other
pub digits_behind : (t xs ys : List ℕ)
    → encode_with t (xs ++ ys) ≡ encode_with t xs ++ encode_with t ys
unfolding encode_with
digits_behind t [] ys = refl
digits_behind t (x ∷ xs) ys =
    ap (λ ds. slice_index t (x / 16) ∷ slice_index t (x % 16) ∷ ds) (digits_behind t xs ys)

-- the first bytes are written
pub digits_written : (old now rest : List ℕ) → AreBytes now
    → (old ++ encode_lower now) ++ escape (encode_lower rest)
    ≡ old ++ escape (encode_lower (now ++ rest))
digits_written old now rest low =
    append_assoc old (encode_lower now) (escape (encode_lower rest))
    ∙ ap (λ l. old ++ (l ++ escape (encode_lower rest))) (sym (plain_digits now low))
    ∙ ap (λ l. old ++ l) (sym (flat_map-append escape_byte (encode_lower now) (encode_lower rest))
    ∙ ap escape (sym (digits_behind lower_digits now rest)))

-- the byte at a place, off what is escaped from there on
next_escaped : (bytes : List ℕ) (at : ℕ) → at < length bytes
    → escape (drop at bytes) ≡ escape_byte (get_or bytes at 0) ++ escape (drop (at + 1) bytes)
next_escaped bytes at l =
    let e : suc at ≡ at + 1 = omega arith in
    ap escape (drop-cons bytes at 0 l)
    ∙ ap (λ n. escape_byte (get_or bytes at 0) ++ escape (drop n bytes)) e

-- a run grows by the byte behind it
next_in_run : (bytes : List ℕ) (start at : ℕ) → start ≤ at → at < length bytes
    → slice_range bytes start (at + 1) ≡ slice_range bytes start at ++ get_or bytes at 0 ∷ []
next_in_run bytes start at f l =
    let e : at + 1 - start ≡ suc (at - start) = omega arith in
    let g : start + (at - start) ≡ at = omega arith in
    let h : at - start < length (drop start bytes) = rw (length-drop start bytes) (omega arith) in
    ap (λ n. take n (drop start bytes)) e ∙ take-suc (drop start bytes) (at - start) 0 h
    ∙ ap (λ b. slice_range bytes start at ++ b ∷ [])
    (get_or-drop start bytes (at - start) 0 ∙ ap (λ n. get_or bytes n 0) g)

-- a run that isn't written yet grows by a byte that stands for itself
pub run_grows : (bytes : List ℕ) (start at : ℕ) (out all : List ℕ) → start ≤ at
    → at < length bytes → is_escaped (get_or bytes at 0) ≡ false
    → out ++ (slice_range bytes start at ++ escape (drop at bytes)) ≡ all
    → out ++ (slice_range bytes start (at + 1) ++ escape (drop (at + 1) bytes)) ≡ all
run_grows bytes start at out all f l plain e =
    let b = get_or bytes at 0 in
    let run = slice_range bytes start at in
    let left = escape (drop (at + 1) bytes) in
    ap (λ r. out ++ (r ++ left)) (next_in_run bytes start at f l)
    ∙ ap (λ r. out ++ r) (append_assoc run (b ∷ []) left
    ∙ ap (λ r. run ++ (r ++ left)) (sym (plain_byte b plain))
    ∙ ap (λ r. run ++ r) (sym (next_escaped bytes at l))) ∙ e

-- a run is written, and the byte behind it that is escaped
pub run_ends : (bytes : List ℕ) (start at : ℕ) (out all : List ℕ) → start ≤ at
    → at < length bytes → out ++ (slice_range bytes start at ++ escape (drop at bytes)) ≡ all
    → ((out ++ slice_range bytes start at) ++ escape_byte (get_or bytes at 0))
    ++ (slice_range bytes (at + 1) (at + 1) ++ escape (drop (at + 1) bytes)) ≡ all
run_ends bytes start at out all f l e =
    let run = slice_range bytes start at in
    let byte = escape_byte (get_or bytes at 0) in
    let left = escape (drop (at + 1) bytes) in
    let none : at + 1 - (at + 1) ≡ 0 = omega arith in
    ap (λ n. ((out ++ run) ++ byte) ++ (take n (drop (at + 1) bytes) ++ left)) none
    ∙ append_assoc (out ++ run) byte left ∙ append_assoc out run (byte ++ left)
    ∙ ap (λ r. out ++ (run ++ r)) (sym (next_escaped bytes at l)) ∙ e
