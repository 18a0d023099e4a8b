-- Lists and their members one by one, their first zero byte, options, and bytes of a number: what
-- names no word of this project. The name `Lists` belongs to the goals of `src/lists.rt`.
use Rattle.std.proofs.Common.{List, [], ◌∷◌, ◌≡◌, ◌<◌, length, map, drop, ap}
use Rattle.std.proofs.Common.{◌∙◌, sym, arith, ℕ, true, refl, Option, Some, None, option_map}
use Rattle.std.proofs.Common.{zero, suc, ◌+◌, ◌*◌, get_or}
use Rattle.std.specs.Str.{bytes_eq}
use Rattle.std.specs.Ordering.{nat_cmp, is_eq}
use Rattle.std.specs.Cmp.Lexicographic.{slice_cmp}
use Rattle.std.specs.declared.cmp.Ordering.TheVariants.{Equal}
use Rattle.std.proofs.lemmas.Map.Text.{is_eq-slice_cmp}
use Rattle.std.proofs.lemmas.Option.{same_Some, none-some}
use Rattle.std.specs.Int.{to_le_bytes, w16}
use Rattle.std.proofs.lemmas.Nat.{le_bytes_2}
use Rattle.std.proofs.Common.{◌≤◌, ◌/◌, Bool, false, cond, not, min, take, length-drop, nat_eq}
use Rattle.std.specs.List.{position_or_len}

-- of a list with a first member, mapped
pub map_first : {A B : Type 0} (f : A → B) (xs : List A) (x : A) (rest : List A) → xs ≡ x ∷ rest
    → map f xs ≡ f x ∷ map f rest
map_first f xs x rest e = ap (map f) e

-- nothing is mapped to nothing
pub map_none : {A B : Type 0} (f : A → B) (xs : List A) → xs ≡ [] → map f xs ≡ []
map_none f xs e = ap (map f) e

-- what is behind the first member
pub drop_first : {A : Type 0} (xs : List A) (x : A) (rest : List A) → xs ≡ x ∷ rest
    → drop 1 xs ≡ rest
drop_first xs x rest e = ap (drop 1) e

-- a list is its first member and what is behind it
pub some_first : {A : Type 0} (xs : List A) (x : A) (rest : List A) → xs ≡ x ∷ rest
    → xs ≡ x ∷ drop 1 xs
some_first xs x rest e = e ∙ ap (λ ys. x ∷ ys) (sym (drop_first xs x rest e))

-- an empty list has no length
pub empty_has_none : {A : Type 0} (xs : List A) → xs ≡ [] → 0 < length xs → ⊥
empty_has_none xs e h = let k : length xs ≡ 0 = ap length e in omega arith

pub ruleset firsts = (map_first, map_none, some_first)

pub ruleset rests = (map_first, map_none, drop_first, empty_has_none)

-- bytes that tie are the same
pub tied_bytes : (s t : List ℕ) → slice_cmp nat_cmp s t ≡ Equal → bytes_eq s t ≡ true
tied_bytes s t h = sym (is_eq-slice_cmp s t) ∙ ap is_eq h

-- what is there has the count that it is given
pub map_count : {X : Type 0} (f : X → List ℕ) (o : Option X) (r : List ℕ × ℕ) (m : ℕ)
    → option_map {U = List ℕ × ℕ} (λ a. (f a, m)) o ≡ Some r → r.1 ≡ m
map_count f (Some v) r m e = sym (ap (λ q. q.1) (same_Some _ _ e))
map_count f None r m e = cc

-- the text of a key that is there
pub text_there : (o : Option (List ℕ)) (t : List ℕ × ℕ) → option_map (λ s. (s, 0)) o ≡ Some t
    → o ≡ Some t.0
text_there None t h = absurd (none-some t h)
text_there (Some s) t h = ap (λ p. Some p.0) (same_Some (s, 0) t h)

-- what is there with a count is one list
pub same_bytes : {there : Option (List ℕ × ℕ)} {b x : List ℕ} {m n : ℕ} → there ≡ Some (b, n)
    → there ≡ Some (x, m) → x ≡ b
same_bytes e f = sym (ap (λ r. r.0) (same_Some _ _ (sym e ∙ f)))

-- two bytes, put together and taken apart
pub two_back : (a b : ℕ) → a < 256 → b < 256 → to_le_bytes w16 (a + 256 * b) ≡ a ∷ b ∷ []
two_back a b h i = le_bytes_2 (a ∷ b ∷ []) (a + 256 * b) refl each (omega arith)
  where
    each : (n : ℕ) → get_or (a ∷ b ∷ []) n 0 < 256
    each zero = h
    each (suc zero) = i
    each (suc (suc n)) = omega arith

-- where the first zero byte stands, or the end
abbrev zero_in : List ℕ → ℕ
zero_in xs = position_or_len (λ x. nat_eq x 0) xs

-- among the first bytes the zero byte stands where it does, or behind them
zero_in_front : (n : ℕ) (xs : List ℕ) → zero_in (take n xs) ≡ min n (zero_in xs)
zero_in_front zero xs = let e : min 0 (zero_in xs) ≡ 0 = omega arith in sym e
zero_in_front (suc n) [] = let e : min (suc n) 0 ≡ 0 = omega arith in sym e
zero_in_front (suc n) (x ∷ xs) = by (nat_eq x 0) (zero_in_front n xs)
  where
    by : (z : Bool) → zero_in (take n xs) ≡ min n (zero_in xs)
        → cond (not z) (1 + zero_in (take n xs)) 0 ≡ min (suc n) (cond (not z) (1 + zero_in xs) 0)
    by true h = let e : min (suc n) 0 ≡ 0 = omega arith in sym e
    by false h = omega (arith, h)

-- it is inside, or the end
zero_inside : (xs : List ℕ) → zero_in xs ≤ length xs
zero_inside [] = omega arith
zero_inside (x ∷ xs) = by (nat_eq x 0) (zero_inside xs)
  where
    by : (z : Bool) → zero_in xs ≤ length xs → cond (not z) (1 + zero_in xs) 0 ≤ suc (length xs)
    by true h = omega arith
    by false h = omega (arith, h)

nothing_in : (xs : List ℕ) → length xs ≡ 0 → zero_in xs ≡ 0
nothing_in [] h = refl
nothing_in (x ∷ xs) h = absurd (omega (arith, h))

-- nothing stands behind the block's end
pub no_zero_behind : (keys : List ℕ) (at : ℕ) → length keys < at
    → position_or_len (λ x. nat_eq x 0) (drop at keys) ≡ 0
no_zero_behind keys at l = nothing_in (drop at keys) (omega (arith, length-drop at keys))

-- all bytes are few enough
pub whole_fits : (xs : List ℕ) (room : ℕ) → length xs / 16 ≤ room
    → position_or_len (λ x. nat_eq x 0) xs / 16 ≤ room
whole_fits xs room h = let k : zero_in xs ≤ length xs = zero_inside xs in omega (arith, h, k)

-- the first bytes tell, where they are enough
pub front_tells : (xs front : List ℕ) (room place : ℕ) → front ≡ take (16 * room + 16) xs
    → place ≡ position_or_len (λ x. nat_eq x 0) front → place / 16 ≤ room
    → place ≡ position_or_len (λ x. nat_eq x 0) xs
front_tells xs front room place f e h =
    let k : place ≡ min (16 * room + 16) (zero_in xs) =
    e ∙ ap zero_in f ∙ zero_in_front (16 * room + 16) xs in omega (arith, h, k)

-- and lack it, where it stands too far behind
pub front_lacks : (xs front : List ℕ) (room place : ℕ) → front ≡ take (16 * room + 16) xs
    → place ≡ position_or_len (λ x. nat_eq x 0) front → room < place / 16
    → room < position_or_len (λ x. nat_eq x 0) xs / 16
front_lacks xs front room place f e h =
    let k : place ≡ min (16 * room + 16) (zero_in xs) =
    e ∙ ap zero_in f ∙ zero_in_front (16 * room + 16) xs in omega (arith, h, k)
