-- Parts of lists, lists of a known length written out, and lists that are compared.
use Rattle.std.proofs.Common.{List, None, Option, Some, [], ap, append-nil, arith, drop, false}
use Rattle.std.proofs.Common.{get_or, if◌then◌else◌, inl, inr, length, min, nat_le, refl}
use Rattle.std.proofs.Common.{slice_range, suc, sym, take, true, ℕ, ◌*◌, ◌++◌, ◌+◌, ◌-◌, ◌<◌}
use Rattle.std.proofs.Common.{◌∙◌, ◌∷◌, ◌≡◌, ◌≢◌, ◌≤◌, ◌⊎◌, zero}
use Rattle.std.specs.Str.{bytes_eq}
use Rattle.std.proofs.lemmas.Slice.Eq.{bytes_eq-Decides}
use Rattle.std.proofs.lemmas.List.{drop-drop, drop-take}
use Rattle.std.specs.Option.{is_some, option_to_list}
use Rattle.std.proofs.lemmas.Bool.Decides.{nat_tests}
use Rattle.std.proofs.Math.Seq.{take-suc}
use Rattle.std.proofs.lemmas.Bool.{lt-leb, le-leb}

pub drop_inside : (body : List ℕ) (k b : ℕ) → k ≤ b
    → drop (4 * k) (take (4 * b) body) ≡ take (4 * (b - k)) (drop (4 * k) body)
drop_inside body k b h =
    let e : 4 * b ≡ 4 * k + 4 * (b - k) = omega arith in
    ap (λ n. drop (4 * k) (take n body)) e ∙ drop-take (4 * k) (4 * (b - k)) body

-- a comparison of bytes holds where they are the same, and fails elsewhere
pub bytes_eq_holds : (a b : List ℕ) → a ≡ b → bytes_eq a b ≡ true
bytes_eq_holds a b e = (bytes_eq-Decides a b).1 e

pub bytes_eq_fails : (a b : List ℕ) → a ≢ b → bytes_eq a b ≡ false
bytes_eq_fails a b h =
    elim (bytes_eq a b) as (λ t. bytes_eq a b ≡ t → t ≡ false)
    [ true ↦ (λ e. absurd (h ((bytes_eq-Decides a b).0 e))) | false ↦ (λ e. refl) ] refl

-- four bytes, one by one
pub four_elements : (xs : List ℕ) → length xs ≡ 4
    → xs ≡ get_or xs 0 0 ∷ get_or xs 1 0 ∷ get_or xs 2 0 ∷ get_or xs 3 0 ∷ []
four_elements [] h = absurd (omega arith)
four_elements (a ∷ []) h = absurd (omega arith)
four_elements (a ∷ b ∷ []) h = absurd (omega arith)
four_elements (a ∷ b ∷ c ∷ []) h = absurd (omega arith)
four_elements (a ∷ b ∷ c ∷ d ∷ []) h = refl
four_elements (a ∷ b ∷ c ∷ d ∷ e ∷ xs) h = absurd (omega arith)

-- one field more, where the count asks for it
pub more_yes : (ws : List ℕ) (n k : ℕ) → k + 1 ≤ n → k + 1 ≤ length ws
    → take (min n (k + 1)) ws ≡ take (min n k) ws ++ get_or ws k 0 ∷ []
more_yes ws n k h l =
    let e : min n (k + 1) ≡ suc k = omega arith in
    let f : min n k ≡ k = omega arith in
    let g : k < length ws = omega arith in
    rw (e, f) (take-suc ws k 0 g)

pub more_no : (ws : List ℕ) (n k : ℕ) → n ≤ k → take (min n (k + 1)) ws ≡ take (min n k) ws ++ []
more_no ws n k h =
    let e : min n (k + 1) ≡ n = omega arith in
    let f : min n k ≡ n = omega arith in
    rw (e, f) (sym (append-nil (take n ws)))

pub take_one_more : (ws : List ℕ) (n k : ℕ) → min n (k + 1) ≤ length ws
    → take (min n (k + 1)) ws ≡ take (min n k) ws
    ++ option_to_list (if nat_le (k + 1) n then Some (get_or ws k 0) else None)
take_one_more ws n k l = elim (le_cases (k + 1) n) [
  | inl h ↦ rw (le-leb (k + 1) n h) (more_yes ws n k h (omega arith))
  | inr h ↦ rw (lt-leb (k + 1) n h) (more_no ws n k (omega arith))
]
  where
    le_cases : (a b : ℕ) → (a ≤ b) ⊎ (b < a)
    le_cases a b =
        elim (nat_le a b) as (λ t. nat_le a b ≡ t → (a ≤ b) ⊎ (b < a)) [
          | true ↦ (λ e. inl (grind (arith, nat_tests)))
          | false ↦ (λ e. inr (grind (arith, nat_tests)))
        ] refl

-- the five fields that are always there
pub five_elements : (ws : List ℕ) (n : ℕ) → n ≡ get_or ws 0 0 → 5 ≤ length ws
    → take 5 ws ≡ n ∷ get_or ws 1 0 ∷ get_or ws 2 0 ∷ get_or ws 3 0 ∷ get_or ws 4 0 ∷ []
five_elements [] n q h = absurd (omega arith)
five_elements (a ∷ []) n q h = absurd (omega arith)
five_elements (a ∷ b ∷ []) n q h = absurd (omega arith)
five_elements (a ∷ b ∷ c ∷ []) n q h = absurd (omega arith)
five_elements (a ∷ b ∷ c ∷ d ∷ []) n q h = absurd (omega arith)
five_elements (a ∷ b ∷ c ∷ d ∷ e ∷ ws) n q h = ap (λ m. m ∷ b ∷ c ∷ d ∷ e ∷ []) (sym q)

pub all_words : (ws : List ℕ) (n : ℕ) → n ≡ get_or ws 0 0 → 5 ≤ n → min n 8 ≤ length ws
    → take (min n 8) ws ≡ n ∷ get_or ws 1 0 ∷ get_or ws 2 0 ∷ get_or ws 3 0 ∷ get_or ws 4 0 ∷ []
    ++ option_to_list (if nat_le 6 n then Some (get_or ws 5 0) else None)
    ++ option_to_list (if nat_le 7 n then Some (get_or ws 6 0) else None)
    ++ option_to_list (if nat_le 8 n then Some (get_or ws 7 0) else None)
all_words ws n q h l =
    let e : min n 5 ≡ 5 = omega arith in
    take_one_more ws n 7 (omega arith)
    ∙ ap (λ xs. xs ++ option_to_list (if nat_le 8 n then Some (get_or ws 7 0) else None))
    (take_one_more ws n 6 (omega arith)
    ∙ ap (λ xs. xs ++ option_to_list (if nat_le 7 n then Some (get_or ws 6 0) else None))
    (take_one_more ws n 5 (omega arith)
    ∙ ap (λ xs. xs ++ option_to_list (if nat_le 6 n then Some (get_or ws 5 0) else None))
    (ap (λ k. take k ws) e ∙ five_elements ws n q (omega arith))))

-- what was written has as many words as the count asks for
pub one_count : (o : Option ℕ) (n k : ℕ) → is_some o ≡ nat_le (k + 1) n
    → length (option_to_list o) + min n k ≡ min n (k + 1)
one_count None n k e = grind (arith, nat_tests)
one_count (Some x) n k e = grind (arith, nat_tests)

-- parts of what stands behind the first four bytes
pub range_behind_four : (bs : List ℕ) (i j : ℕ)
    → slice_range (drop 4 bs) i j ≡ take (j - i) (drop (4 + i) bs)
range_behind_four bs i j = ap (take (j - i)) (drop-drop i 4 bs)

-- no more of a list is left out than it has
pub drop_min : (xs : List ℕ) (n : ℕ) → drop (min (length xs) n) xs ≡ drop n xs
drop_min [] n = nothing (min 0 n) n
  where
    nothing : (a b : ℕ) → drop {A = ℕ} a [] ≡ drop b []
    nothing zero zero = refl
    nothing zero (suc b) = refl
    nothing (suc a) zero = refl
    nothing (suc a) (suc b) = refl
drop_min (x ∷ xs) zero = let e : min (suc (length xs)) 0 ≡ 0 = omega arith in rw e refl
drop_min (x ∷ xs) (suc n) =
    let e : min (suc (length xs)) (suc n) ≡ suc (min (length xs) n) = omega arith in
    rw e (drop_min xs n)
