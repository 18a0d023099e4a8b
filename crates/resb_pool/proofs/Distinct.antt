-- A list with a text in front, and texts that stand once in a list and go by their indexes.
use Rattle.std.proofs.Common.{◌≡◌, ℕ, zero, suc, ◌<◌, List, [], ◌∷◌, ◌++◌, length, take}
use Rattle.std.proofs.Common.{◌⊎◌, inl, inr, refl, sym, ◌∙◌, ap, subst, arith}
use Rattle.std.specs.List.{Contains}
use Rattle.std.proofs.lemmas.List.{get_or_default}
use Rattle.std.proofs.lemmas.List.Elements.{Contains-push_cases}
use Rattle.resb_pool.specs.Records.{EachOnce}
use Rattle.resb_pool.specs.Inner.Placing.{indexed_text}
use Rattle.resb_pool.proofs.TextLists.{TextList}

-- one of a list with x in front
pub cons_cases : (x : List ℕ) (xs : TextList) (y : List ℕ) → Contains (x ∷ xs) y → (x ≡ y)
    ⊎ Contains xs y
cons_cases x xs y (zero, lt, is) = inl is
cons_cases x xs y (suc k, lt, is) = inr (k, omega arith, is)

pub Contains-first : (x : List ℕ) (xs : TextList) → Contains (x ∷ xs) x
Contains-first x xs = (0, omega arith, refl)

-- a text by its index, and the index of a text
pub has_text : (T : TextList) (i : ℕ) → i < length T → Contains T (indexed_text T i)
has_text T i l = (i, l, get_or_default T i (indexed_text T i) [] l)

pub index_of : (T : TextList) (s : List ℕ) → Contains T s
    → (i : ℕ) × (i < length T) × (indexed_text T i ≡ s)
index_of T s h = (h.0, h.1, get_or_default T h.0 [] s h.1 ∙ h.2)

pub distinct_push : (qs : TextList) (t : List ℕ) → EachOnce qs → (Contains qs t → ⊥)
    → EachOnce (qs ++ t ∷ [])
distinct_push [] t d f = (λ x. absurd (omega (arith, x.1)), tt)
distinct_push (q ∷ qs) t d f = (
  λ x. elim (Contains-push_cases qs t q x) [
    | inl y ↦ d.0 y
    | inr z ↦
        f (subst (λ (w : List ℕ). Contains (q ∷ qs) w) (sym z) (0, omega arith, refl))
  ],
  distinct_push qs t d.1 (λ x. f (suc x.0, omega (arith, x.1), x.2)),
)

pub one_index : (T : TextList) (i j : ℕ) → EachOnce T → i < length T → j < length T
    → indexed_text T i ≡ indexed_text T j → i ≡ j
one_index [] i j d l m e = absurd (omega (arith, l))
one_index (x ∷ T) zero zero d l m e = refl
one_index (x ∷ T) zero (suc j) d l m e =
    absurd (d.0 (subst (Contains T) (sym e) (has_text T j (omega (arith, m)))))
one_index (x ∷ T) (suc i) zero d l m e =
    absurd (d.0 (subst (Contains T) e (has_text T i (omega (arith, l)))))
one_index (x ∷ T) (suc i) (suc j) d l m e =
    ap suc (one_index T i j d.1 (omega (arith, l)) (omega (arith, m)) e)

-- a text doesn't stand before its index
pub not_before : (T : TextList) (i : ℕ) → EachOnce T → i < length T
    → Contains (take i T) (indexed_text T i)
    → ⊥
not_before [] i d l h = omega (arith, l)
not_before (x ∷ T) zero d l h = omega (arith, h.1)
not_before (x ∷ T) (suc i) d l (zero, lt, is) =
    d.0 (subst (Contains T) (sym is) (has_text T i (omega (arith, l))))
not_before (x ∷ T) (suc i) d l (suc k, lt, is) =
    not_before T i d.1 (omega (arith, l)) (k, omega (arith, lt), is)
