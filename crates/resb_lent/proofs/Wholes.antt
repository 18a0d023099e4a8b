-- Where keys can stand: between one zero byte and the next.
use Rattle.std.proofs.Common.{ℕ, List, [], ◌∷◌, ◌≡◌, ◌+◌, ◌-◌, ◌<◌, ◌≤◌, ◌⊎◌, inl, inr, zero, suc}
use Rattle.std.proofs.Common.{take, drop, length, get_or, Option, Some, None, Bool, true, false}
use Rattle.std.proofs.Common.{refl, sym, ap, ◌∙◌, arith, nat_eq, length-drop, min, ◌||◌}
use Rattle.std.specs.Prelude.{option_and_then}
use Rattle.std.specs.List.{position, position_or_len}
use Rattle.std.specs.Str.{is_utf8}
use Rattle.std.proofs.lemmas.Bool.{cases_lt}
use Rattle.std.proofs.lemmas.Bool.Decides.{nat_tests}
use Rattle.std.proofs.lemmas.List.{get_or-drop}
use Rattle.std.proofs.lemmas.List.Quantifiers.{position-Some}
use Rattle.resb_format.specs.Strings.{before_zero, if_utf8, key_at}
use Rattle.resb_format.proofs.StringsIn.{lacks_zero}
use Rattle.resb_lent.specs.LentKeys.{StandsWhole, begins_key}

-- where the first zero byte is
abbrev pub zero_at : List ℕ → ℕ
zero_at xs = position_or_len (λ x. nat_eq x 0) xs

-- the number of the first zero byte
abbrev pub first_zero : List ℕ → Option ℕ
first_zero xs = position (λ b. nat_eq b 0) xs

tail_zero : (x : ℕ) (xs : List ℕ) (b : Bool) → nat_eq x 0 ≡ b
    → length (x ∷ xs) ≤ zero_at (x ∷ xs) → (b ≡ false) × (length xs ≤ zero_at xs)
tail_zero x xs true e h = absurd (let f = rw e at h in omega (arith, f))
tail_zero x xs false e h = (refl, let f = rw e at h in omega (arith, f))

-- bytes without a first zero have none
pub no_zeros : (xs : List ℕ) (k : ℕ) → length xs ≤ zero_at xs → k < length xs
    → get_or xs k 0 ≡ 0 → ⊥
no_zeros [] k h l e = omega (arith, l)
no_zeros (x ∷ xs) zero h l e =
    let f = (tail_zero x xs (nat_eq x 0) refl h).0 in grind (arith, nat_tests, f, e)
no_zeros (x ∷ xs) (suc k) h l e =
    no_zeros xs k (tail_zero x xs (nat_eq x 0) refl h).1 (omega (arith, l)) e

-- a key is what stands there, and is UTF-8
its_utf8 : (o : Option (List ℕ)) (t : List ℕ) → option_and_then if_utf8 o ≡ Some t
    → (o ≡ Some t) × (is_utf8 t ≡ true)
its_utf8 None t e = absurd cc
its_utf8 (Some bs) t e = cases (is_utf8 bs) refl
  where
    cases : (b : Bool) → is_utf8 bs ≡ b → (Some bs ≡ Some t) × (is_utf8 t ≡ true)
    cases true u =
        let f : Some bs ≡ Some t = rw u at e in
        let g : bs ≡ t = cc in
        (f, ap is_utf8 (sym g) ∙ u)
    cases false u = let f : None ≡ Some t = rw u at e in absurd cc

-- a zero byte stands behind a key
pub ended : (xs t : List ℕ) → before_zero xs ≡ Some t → zero_at xs < length xs
ended xs t e = cases (cases_lt (zero_at xs) (length xs))
  where
    cases : (zero_at xs < length xs) ⊎ (length xs ≤ zero_at xs) → zero_at xs < length xs
    cases (inl l) = l
    cases (inr g) = let f = lacks_zero xs g in absurd cc

pub key_ended : (keys q : List ℕ) (p : ℕ) → key_at keys p ≡ Some q
    → (z : ℕ) × (p ≤ z) × (z < length keys) × (get_or keys z 0 ≡ 0)
unfolding key_at
key_ended keys q p e =
    let xs = drop p keys in
    let l = ended xs q (its_utf8 (before_zero xs) q e).0 in
    let found : first_zero xs ≡ Some (zero_at xs) = grind (arith, nat_tests, l) in
    let is = position-Some (λ x. nat_eq x 0) xs (zero_at xs) 0 found in
    let byte : get_or xs (zero_at xs) 0 ≡ 0 = grind (arith, nat_tests, is.1) in (
      p + zero_at xs,
      omega arith,
      omega (arith, l, length-drop p keys),
      sym (get_or-drop p keys (zero_at xs) 0) ∙ byte,
    )

-- no key ends behind the last zero byte
pub no_key_behind : (keys rest q : List ℕ) (start p : ℕ) → rest ≡ drop start keys
    → first_zero rest ≡ None → start ≤ p → StandsWhole keys q p → ⊥
no_key_behind keys rest q start p r none le w =
    let (z, past, inside, byte) = key_ended keys q p w.reads in
    let f : length rest ≤ zero_at rest = grind (arith, nat_tests, none) in
    let i : start + (z - start) ≡ z = omega (arith, le, past) in
    no_zeros rest (z - start) f
    (omega (arith, ap length r ∙ length-drop start keys, inside, le, past))
    (ap (λ l. get_or l (z - start) 0) r ∙ get_or-drop start keys (z - start) 0
    ∙ ap (λ n. get_or keys n 0) i ∙ byte)

-- nor does one begin behind the last byte, or where 31 bits don't reach
pub no_key_far : (keys q : List ℕ) (start p : ℕ) → min (length keys) 0x8000_0000 ≤ start
    → start ≤ p → StandsWhole keys q p → ⊥
no_key_far keys q start p far le w =
    let (z, past, inside, byte) = key_ended keys q p w.reads in
    omega (arith, far, le, past, inside, w.near)

-- what stands before the next zero byte is the key that stands there, if it is UTF-8
pub key_here : (keys rest key : List ℕ) (start len : ℕ) → rest ≡ drop start keys
    → first_zero rest ≡ Some len → key ≡ take len rest → key_at keys start ≡ if_utf8 key
unfolding key_at
key_here keys rest key start len r p k =
    let found : before_zero rest ≡ Some key = rw (p, k) refl in
    ap (λ l. option_and_then if_utf8 (before_zero l)) (sym r) ∙ ap (option_and_then if_utf8) found

-- none begins between the first byte of a key and the zero byte behind it
pub begins_inside : (keys rest : List ℕ) (start len p : ℕ) → rest ≡ drop start keys
    → first_zero rest ≡ Some len → start < p → p < start + (len + 1)
    → begins_key keys p ≡ true → ⊥
begins_inside keys rest start len p r found l m w =
    let is = position-Some (λ x. nat_eq x 0) rest len 0 found in
    let k = p - 1 - start in
    let i : start + k ≡ p - 1 = omega (arith, l) in
    let same : get_or rest k 0 ≡ get_or keys (p - 1) 0 =
    ap (λ x. get_or x k 0) r ∙ get_or-drop start keys k 0 ∙ ap (λ n. get_or keys n 0) i in
    let full : nat_eq (get_or rest k 0) 0 ≡ false = is.2 k (omega (arith, l, m)) in
    let begins : nat_eq p 0 || nat_eq (get_or keys (p - 1) 0) 0 ≡ true = w in
    grind (arith, nat_tests, same, full, begins, l)

pub none_inside : (keys rest q : List ℕ) (start len p : ℕ) → rest ≡ drop start keys
    → first_zero rest ≡ Some len → start < p → p < start + (len + 1) → StandsWhole keys q p → ⊥
none_inside keys rest q start len p r found l m w =
    begins_inside keys rest start len p r found l m w.begins

-- the next key begins behind the zero byte
pub next_begins : (keys rest : List ℕ) (start len : ℕ) → rest ≡ drop start keys
    → first_zero rest ≡ Some len
    → (start + (len + 1) ≤ length keys) × (begins_key keys (start + (len + 1)) ≡ true)
next_begins keys rest start len r found =
    let is = position-Some (λ x. nat_eq x 0) rest len 0 found in
    let many = ap length r ∙ length-drop start keys in
    let same : get_or rest len 0 ≡ get_or keys (start + len) 0 =
    ap (λ x. get_or x len 0) r ∙ get_or-drop start keys len 0 in
    let i : start + (len + 1) - 1 ≡ start + len = omega arith in
    (omega (arith, many, is.0), grind (arith, nat_tests, same, is.1, i))
