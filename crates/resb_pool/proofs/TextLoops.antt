-- Loops over texts: what an iteration adds, and which text is the first that is too long.
use Rattle.std.proofs.Common.{◌≡◌, ℕ, zero, suc, ◌+◌, ◌<◌, ◌≤◌, List, [], ◌∷◌, ◌++◌, Bor, length}
use Rattle.std.proofs.Common.{get_or, take, drop, Some, None, Bool, true, false, cond, All, refl}
use Rattle.std.proofs.Common.{sym, ◌∙◌, ap, arith}
use Rattle.std.proofs.lemmas.List.{map_more, map_push}
use Rattle.std.proofs.lemmas.List.Elements.{All-nil, All-cons}
use Rattle.std.proofs.lemmas.List.Sums.{sum_by-append, sum_by-cons}
use Rattle.std.proofs.lemmas.Bool.{leb-true, le-leb}
use Rattle.std.specs.Prelude.{nat_le}
use Rattle.resb_format.specs.Units.{units}
use Rattle.resb_pool.specs.Plan.{nows, first_too_long, texts_size}

-- what stands past the end of a slice
abbrev pub blank : Bor (List ℕ)
blank = record { ref_ptr = (0, 0); now = [] }

-- the texts behind one reference more
pub nows-take : (xs : List (Bor (List ℕ))) (i : ℕ) (d : Bor (List ℕ)) → i < length xs
    → nows (take (i + 1) xs) ≡ nows (take i xs) ++ (get_or xs i d).now ∷ []
nows-take xs i d h = map_more (λ (y : Bor (List ℕ)). y.now) xs i d h

pub nows-split : (xs : List (Bor (List ℕ))) (i : ℕ) (d : Bor (List ℕ)) → i < length xs
    → nows xs ≡ nows (take i xs) ++ (get_or xs i d).now ∷ nows (drop (suc i) xs)
nows-split [] i d h = absurd (omega arith)
nows-split (x ∷ xs) zero d h = refl
nows-split (x ∷ xs) (suc i) d h = ap (λ l. x.now ∷ l) (nows-split xs i d (omega arith))

module _ (s : List ℕ) (ss : List (List ℕ)) where
  first_cases : (P : Type 0) → first_too_long (s ∷ ss) ≡ None
      → (length (units s) ≤ 4294967295 → first_too_long ss ≡ None → P) → P
  first_cases P h next = by (nat_le (length (units s)) 4294967295) refl
    where
      by : (b : Bool) → nat_le (length (units s)) 4294967295 ≡ b → P
      by true e = next (leb-true (length (units s)) 4294967295 e)
          (sym (ap (λ b. cond b (first_too_long ss) (Some (length (units s)))) e) ∙ h)
      by false e = (let k = sym (ap (λ b. cond b (first_too_long ss) (Some (length (units s)))) e)
          ∙ h in cc)

  first_more : (o : length (units s) ≤ 4294967295) → first_too_long (s ∷ ss) ≡ first_too_long ss
  first_more o = ap (λ b. cond b (first_too_long ss) (Some (length (units s))))
      (le-leb (length (units s)) 4294967295 o)

pub first_after : (ss rs : List (List ℕ)) → first_too_long ss ≡ None
    → first_too_long (ss ++ rs) ≡ first_too_long rs
first_after [] rs h = refl
first_after (s ∷ ss) rs h = first_cases s ss (first_too_long (s ∷ ss ++ rs) ≡ first_too_long rs) h
    (λ o k. first_more s (ss ++ rs) o ∙ first_after ss rs k)

pub first_push : (ss : List (List ℕ)) (s : List ℕ) → first_too_long ss ≡ None
    → first_too_long (s ∷ []) ≡ None → first_too_long (ss ++ s ∷ []) ≡ None
first_push ss s h o = first_after ss (s ∷ []) h ∙ o

pub first_found : (ss : List (List ℕ)) (s : List ℕ) (rs : List (List ℕ)) (n : ℕ)
    → first_too_long ss ≡ None → first_too_long (s ∷ []) ≡ Some n
    → first_too_long (ss ++ s ∷ rs) ≡ Some n
first_found ss s rs n h o =
    first_after ss (s ∷ rs) h ∙ by (nat_le (length (units s)) 4294967295) o
  where
    by : (b : Bool) → cond b None (Some (length (units s))) ≡ Some n
        → cond b (first_too_long rs) (Some (length (units s))) ≡ Some n
    by true e = absurd (let z : None ≡ Some n = e in cc)
    by false e = e

pub none_too_long : (ss : List (List ℕ)) → first_too_long ss ≡ None
    → All (λ s. length (units s) ≤ 4294967295) ss
none_too_long [] h = All-nil (λ s. length (units s) ≤ 4294967295)
none_too_long (s ∷ ss) h = first_cases s ss (All (λ r. length (units r) ≤ 4294967295) (s ∷ ss)) h
    (λ o k. All-cons (λ r. length (units r) ≤ 4294967295) s ss o (none_too_long ss k))

pub texts_size-push : (ss : List (List ℕ)) (s : List ℕ)
    → texts_size (ss ++ s ∷ []) ≡ texts_size ss + (16 + length (units s))
texts_size-push ss s = sum_by-append (λ (r : List ℕ). 16 + length (units r)) ss (s ∷ [])
    ∙ omega arith

pub texts_size-most : (ss : List (List ℕ)) (s : List ℕ) (rs : List (List ℕ))
    → texts_size ss + (16 + length (units s)) ≤ texts_size (ss ++ s ∷ rs)
texts_size-most ss s rs = omega (
  arith,
  sum_by-append (λ (r : List ℕ). 16 + length (units r)) ss
      (s ∷ rs),
  sum_by-cons (λ (r : List ℕ). 16 + length (units r)) s rs,
)

-- the texts behind references of which one more was pushed
pub nows-push : (old new : List (Bor (List ℕ))) (t : Bor (List ℕ)) → new ≡ old ++ t ∷ []
    → nows new ≡ nows old ++ t.now ∷ []
nows-push old new t e = ap nows e ∙ map_push (λ (y : Bor (List ℕ)). y.now) old t
