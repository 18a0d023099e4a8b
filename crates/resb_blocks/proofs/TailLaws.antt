-- An end of a tail is a key.
use Rattle.std.proofs.Common.{ℕ, List, ◌≡◌, ◌+◌, ◌-◌, ◌<◌, ◌≤◌, take, drop, length, Some, None}
use Rattle.std.proofs.Common.{Bool, zero, suc, [], ◌∷◌}
use Rattle.std.proofs.Common.{refl, sym, ap, ◌∙◌, arith, nat_eq, true, false, inl, inr, ◌⊎◌}
use Rattle.std.proofs.Common.{length-drop}
use Rattle.std.proofs.lemmas.Bool.{cases_lt}
use Rattle.std.proofs.lemmas.Bool.Decides.{nat_tests}
use Rattle.std.proofs.lemmas.List.{get_or-drop, drop-take, length-take-le, drop-drop}
use Rattle.std.proofs.lemmas.List.Sums.{position_or_len_is}
use Rattle.std.proofs.lemmas.List.Quantifiers.{position-Some}
use Rattle.std.proofs.lemmas.Str.{is_utf8-from_IsUtf8, IsUtf8-from_is_utf8, IsUtf8-drop}
use Rattle.std.proofs.lemmas.Str.{IsCharBoundary-from_drop}
use Rattle.std.specs.List.{position_or_len, position}
use Rattle.std.specs.Prelude.{Option, option_and_then}
use Rattle.std.specs.Str.{IsUtf8, is_utf8, IsCharBoundary}
use Rattle.resb_format.specs.Strings.{before_zero, if_utf8, key_at}
use Rattle.resb_format.proofs.StringsIn.{ends_at_zero, lacks_zero}

-- where the first zero byte is
abbrev zero_at : List ℕ → ℕ
zero_at xs = position_or_len (λ x. nat_eq x 0) xs

-- what stands before a zero byte
no_zero_before : (xs t : List ℕ) → before_zero xs ≡ Some t
    → (zero_at xs < length xs) × (t ≡ take (zero_at xs) xs)
no_zero_before xs t e = cases (cases_lt (zero_at xs) (length xs))
  where
    cases : (zero_at xs < length xs) ⊎ (length xs ≤ zero_at xs)
        → (zero_at xs < length xs) × (t ≡ take (zero_at xs) xs)
    cases (inl l) = let f = ends_at_zero xs l in (l, cc)
    cases (inr g) = let f = lacks_zero xs g in absurd cc

-- the zero byte is the first one from any place before it on
zero_later : (xs : List ℕ) (k : ℕ) → zero_at xs < length xs → k ≤ zero_at xs
    → zero_at (drop k xs) ≡ zero_at xs - k
zero_later xs k l h =
    let found : position (λ x. nat_eq x 0) xs ≡ Some (zero_at xs) = grind (arith, nat_tests) in
    let is = position-Some (λ x. nat_eq x 0) xs (zero_at xs) 0 found in
    position_or_len_is (λ x. nat_eq x 0) (drop k xs) (zero_at xs - k) 0
    (omega (arith, length-drop k xs))
    (λ j m. rw (get_or-drop k xs j 0) (is.2 (k + j) (omega arith)))
    (λ m. (let e : k + (zero_at xs - k) ≡ zero_at xs = omega arith in
    rw (get_or-drop k xs (zero_at xs - k) 0, e) is.1))

pub key_from_later : (xs t : List ℕ) (k : ℕ) → before_zero xs ≡ Some t → k ≤ length t
    → before_zero (drop k xs) ≡ Some (drop k t)
key_from_later xs t k e h =
    let was = no_zero_before xs t e in
    let n = zero_at xs in
    let many : length t ≡ n = ap length was.1 ∙ length-take-le n xs (omega (arith, was.0)) in
    let within : k ≤ n = omega (arith, many, h) in
    let moved = zero_later xs k was.0 within in
    let less : zero_at (drop k xs) < length (drop k xs) =
    omega (arith, moved, length-drop k xs, was.0, within) in
    let back : k + (n - k) ≡ n = omega (arith, within) in
    let cut : take (n - k) (drop k xs) ≡ drop k t =
    sym (drop-take k (n - k) xs) ∙ ap (λ m. drop k (take m xs)) back ∙ ap (drop k) (sym was.1) in
    ends_at_zero (drop k xs) less ∙ ap Some (ap (λ m. take m (drop k xs)) moved ∙ cut)

-- bytes without a zero have none further on
tail_zero : (x : ℕ) (xs : List ℕ) (b : Bool) → nat_eq x 0 ≡ b
    → length (x ∷ xs) ≤ zero_at (x ∷ xs) → length xs ≤ zero_at xs
tail_zero x xs true e h = absurd (let f = rw e at h in omega (arith, f))
tail_zero x xs false e h = let f = rw e at h in omega (arith, f)

no_zero_later : (xs : List ℕ) (k : ℕ) → length xs ≤ zero_at xs
    → length (drop k xs) ≤ zero_at (drop k xs)
no_zero_later [] zero h = h
no_zero_later [] (suc k) h = omega arith
no_zero_later (x ∷ xs) zero h = h
no_zero_later (x ∷ xs) (suc k) h = no_zero_later xs k (tail_zero x xs (nat_eq x 0) refl h)

-- a key is what stands there, and is UTF-8
pub is_its_utf8 : (o : Option (List ℕ)) (t : List ℕ) → option_and_then if_utf8 o ≡ Some t
    → (o ≡ Some t) × (is_utf8 t ≡ true)
is_its_utf8 None t e = absurd cc
is_its_utf8 (Some bs) t e = cases (is_utf8 bs) refl
  where
    cases : (b : Bool) → is_utf8 bs ≡ b → (Some bs ≡ Some t) × (is_utf8 t ≡ true)
    cases true u =
        let f : Some bs ≡ Some t = rw u at e in
        let g : bs ≡ t = cc in
        (f, ap is_utf8 (sym g) ∙ u)
    cases false u = let f : None ≡ Some t = rw u at e in absurd cc

-- behind the last zero byte there is no key
pub no_key_behind : (keys s : List ℕ) (start at : ℕ)
    → position (λ b. nat_eq b 0) (drop start keys) ≡ None → start ≤ at → key_at keys at ≡ Some s
    → ⊥
unfolding key_at
no_key_behind keys s start at none le e =
    let rest = drop start keys in
    let k = at - start in
    let its = no_zero_before (drop at keys) s (is_its_utf8 (before_zero (drop at keys)) s e).0 in
    let f : length rest ≤ zero_at rest = grind (arith, nat_tests, none) in
    let g = no_zero_later rest k f in
    let i : start + k ≡ at = omega (arith, le) in
    let same : drop k rest ≡ drop at keys = drop-drop k start keys ∙ ap (λ n. drop n keys) i in
    let h : length (drop at keys) ≤ zero_at (drop at keys) = rw same at g in
    omega (arith, h, its.0)

-- nor behind the last byte
pub no_key_past : (keys s : List ℕ) (at : ℕ) → length keys ≤ at → key_at keys at ≡ Some s → ⊥
unfolding key_at
no_key_past keys s at le e =
    let its = no_zero_before (drop at keys) s (is_its_utf8 (before_zero (drop at keys)) s e).0 in
    omega (arith, its.0, le, length-drop at keys)

-- the law: a key cut between two characters is a key
pub end_of_tail : (keys t : List ℕ) (from k : ℕ) → key_at keys from ≡ Some t
    → IsCharBoundary t k → key_at keys (from + k) ≡ Some (drop k t)
unfolding key_at
end_of_tail keys t from k e b =
    let is = is_its_utf8 (before_zero (drop from keys)) t e in
    let same : drop (from + k) keys ≡ drop k (drop from keys) = sym (drop-drop k from keys) in
    let f = key_from_later (drop from keys) t k is.0 b.0 in
    let u = IsUtf8-drop t k (IsUtf8-from_is_utf8 t is.1) b in
    let v : is_utf8 (drop k t) ≡ true = is_utf8-from_IsUtf8 (drop k t) u in
    rw (same, f, v) refl

-- what stands before a zero byte, without its first bytes, is a key where it is UTF-8
pub tail_stands : (keys rest key text : List ℕ) (start end before : ℕ) → rest ≡ drop start keys
    → Some end ≡ position (λ b. nat_eq b 0) rest → key ≡ take end rest → before ≤ length key
    → text ≡ drop before key → IsUtf8 text → key_at keys (start + before) ≡ Some text
unfolding key_at
tail_stands keys rest key text start end before r p k b t u =
    let found : before_zero rest ≡ Some key = rw (sym p, k) refl in
    let same : drop (start + before) keys ≡ drop before rest =
    sym (drop-drop before start keys) ∙ ap (drop before) (sym r) in
    let stands : before_zero (drop (start + before) keys) ≡ Some text =
    rw (same, t) (key_from_later rest key before found b) in
    let v : is_utf8 text ≡ true = is_utf8-from_IsUtf8 text u in
    rw (stands, v) refl

-- the other way round: a key that begins inside a key is cut between two characters
pub cut_of_tail : (keys t s : List ℕ) (from k : ℕ) → key_at keys from ≡ Some t → k ≤ length t
    → key_at keys (from + k) ≡ Some s → IsCharBoundary t k
unfolding key_at
cut_of_tail keys t s from k e l g =
    let is = is_its_utf8 (before_zero (drop from keys)) t e in
    let same : drop (from + k) keys ≡ drop k (drop from keys) = sym (drop-drop k from keys) in
    let f : before_zero (drop (from + k) keys) ≡ Some (drop k t) =
    rw same (key_from_later (drop from keys) t k is.0 l) in
    let its = is_its_utf8 (before_zero (drop (from + k) keys)) s g in
    let here : s ≡ drop k t = cc in
    let u : is_utf8 (drop k t) ≡ true = ap is_utf8 (sym here) ∙ its.1 in
    IsCharBoundary-from_drop t k l (IsUtf8-from_is_utf8 (drop k t) u)
