-- What stands before the first 0 of a list.
use Rattle.std.proofs.Common.{◌||◌, ◌≡◌, ℕ, ◌+◌, List, [], ◌∷◌, ◌++◌, length, take, Some, None}
use Rattle.std.proofs.Common.{option_map, Bool, true, false, not, ◌==◌, nat_eq, nat_lt, cond}
use Rattle.std.proofs.Common.{refl, ◌∙◌, ap, length-append, arith}
use Rattle.std.specs.List.{list_any, position_or_len}
use Rattle.std.proofs.lemmas.Bool.{or_parts, lt-ltb}
use Rattle.std.proofs.lemmas.List.Folds.{list_any-append}
use Rattle.std.proofs.lemmas.List.{take_at}
use Rattle.resb_format.specs.Strings.{before_zero}

-- some unit is 0
abbrev pub has_zero : List ℕ → Bool
has_zero xs = list_any (λ b. nat_eq b 0) xs

up_to_zero : (xs rest : List ℕ) → has_zero xs ≡ false
    → position_or_len (λ x. x == 0) (xs ++ 0 ∷ rest) ≡ length xs
up_to_zero [] rest h = refl
up_to_zero (x ∷ xs) rest h =
    let o = or_parts (nat_eq x 0) (has_zero xs) h in
    let t : ℕ = position_or_len (λ y. y == 0) (xs ++ 0 ∷ rest) in
    let e : t ≡ length xs = up_to_zero xs rest o.1 in
    ap (λ b. cond (not b) (1 + t) 0) o.0 ∙ omega (arith, e)

-- the units before the first 0 are those that hold none
pub before_zero-found : (xs rest : List ℕ) → has_zero xs ≡ false
    → before_zero (xs ++ 0 ∷ rest) ≡ Some xs
before_zero-found xs rest h =
    let ys : List ℕ = xs ++ 0 ∷ rest in
    let n : ℕ = position_or_len (λ x. x == 0) ys in
    let e : n ≡ length xs = up_to_zero xs rest h in
    let t : nat_lt n (length ys) ≡ true =
    lt-ltb n (length ys) (omega (arith, e, length-append xs (0 ∷ rest))) in
    ap (λ b. option_map (λ k. take k ys) (cond b (Some n) None)) t
    ∙ ap Some (ap (λ k. take k ys) e ∙ take_at xs (0 ∷ rest) (length xs) refl)

pub has_zero-append : (xs ys : List ℕ) → has_zero (xs ++ ys) ≡ (has_zero xs || has_zero ys)
has_zero-append xs ys = list_any-append (λ b. nat_eq b 0) xs ys
