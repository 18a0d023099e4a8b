-- How large texts are, and what all copies of a text take.
use Rattle.std.proofs.Common.{◌≡◌, ℕ, suc, ◌+◌, ◌/◌, ◌%◌, ◌≤◌, List, [], ◌∷◌, ◌++◌}
use Rattle.std.proofs.Common.{length, Bool, true, false, cond, refl, sym, ◌∙◌, ap, arith}
use Rattle.std.specs.List.{Contains, sum_by}
use Rattle.std.specs.Prelude.{nat_le}
use Rattle.std.specs.Str.{bytes_eq}
use Rattle.std.specs.Cmp.Lexicographic.{bytes_decides}
use Rattle.std.proofs.lemmas.List.Sums.{sum_by-cons, sum_by-append, sum_by-le-sum_by}
use Rattle.resb_format.specs.Units.{units, marker, size, is_unmarked, length_marker}
use Rattle.resb_pool.specs.Plan.{texts_size}
use Rattle.resb_pool.specs.Inner.Placing.{copies}
use Rattle.resb_pool.proofs.TextLists.{TextList}

marked_le : (n : ℕ) → length (length_marker n) ≤ 3
marked_le n = by (nat_le n 0x3ee) (nat_le n 0xf_ffff)
  where
    by : (a b : Bool) → length (cond a ((0xdc00 + n) ∷ [])
        (cond b ((0xdfef + n / 0x1_0000) ∷ (n % 0x1_0000) ∷ [])
        (0xdfff ∷ (n / 0x1_0000) ∷ (n % 0x1_0000) ∷ []))) ≤ 3
    by true b = omega arith
    by false true = omega arith
    by false false = omega arith

-- a marker has three units at most
pub marker_le : (s : List ℕ) → length (marker s) ≤ 3
marker_le s = by (is_unmarked s)
  where
    by : (b : Bool) → length (cond b [] (length_marker (length (units s)))) ≤ 3
    by true = omega arith
    by false = marked_le (length (units s))

pub sizes_within : (S : TextList) → sum_by size S ≤ texts_size S
sizes_within S = sum_by-le-sum_by size (λ s. 16 + length (units s)) S
    (λ s. omega (arith, marker_le s))

-- what a copy of s adds to the copies of t
abbrev pub copy : List ℕ → List ℕ → ℕ
copy t s = cond (bytes_eq t s) (size s) 0

pub copy_same : (t s : List ℕ) → t ≡ s → copy t s ≡ size s
copy_same t s e = ap (λ b. cond b (size s) 0) ((bytes_decides t s).1 e)

pub copy_other : (t s : List ℕ) → (t ≡ s → ⊥) → copy t s ≡ 0
copy_other t s ne = by (bytes_eq t s) refl
  where
    by : (b : Bool) → bytes_eq t s ≡ b → cond b (size s) 0 ≡ 0
    by true e = absurd (ne ((bytes_decides t s).0 e))
    by false e = refl

pub copy_le : (t s : List ℕ) → copy t s ≤ size s
copy_le t s = by (bytes_eq t s)
  where
    by : (b : Bool) → cond b (size s) 0 ≤ size s
    by true = omega arith
    by false = omega arith

pub copies-push : (D : TextList) (s t : List ℕ) → copies (D ++ s ∷ []) t ≡ copies D t + copy t s
copies-push D s t = sum_by-append (copy t) D (s ∷ []) ∙ omega arith

pub copies-cons : (s t : List ℕ) (D : TextList) → copies (s ∷ D) t ≡ copy t s + copies D t
copies-cons s t D = sum_by-cons (copy t) s D

pub copies_none : (D : TextList) (t : List ℕ) → (Contains D t → ⊥) → copies D t ≡ 0
copies_none [] t f = refl
copies_none (s ∷ D) t f =
    let n = copies_none D t (λ c. f (suc c.0, omega (arith, c.1), c.2)) in
    let z = copy_other t s (λ e. f (0, omega arith, sym e)) in
    omega (arith, copies-cons s t D, n, z)

pub copies_within : (D : TextList) (t : List ℕ) → copies D t ≤ texts_size D
copies_within D t = sum_by-le-sum_by (copy t) (λ s. 16 + length (units s)) D
    (λ s. omega (arith, marker_le s, copy_le t s))
