-- No layout costs less than the records.
use Rattle.std.proofs.Common.{◌≡◌, ℕ, ◌≤◌, List, [], ◌∷◌, ◌++◌, length, true}
use Rattle.std.proofs.Common.{◌⊎◌, inl, inr, refl, sym, ◌∙◌, ap, subst}
use Rattle.std.proofs.Common.{length-append, arith}
use Rattle.std.specs.List.{All, Contains, sum_by, remove, flat_map}
use Rattle.std.specs.List.Sorted.{IsPermutation}
use Rattle.std.specs.Str.{chars, IsUtf8}
use Rattle.std.specs.Char.Escape.{encode_utf16}
use Rattle.std.proofs.lemmas.List.Sorted.{IsPermutation-remove, Contains-permutation, sum_by_popped}
use Rattle.std.proofs.lemmas.List.Sums.{sum_by-cons}
use Rattle.std.proofs.lemmas.List.Elements.{All-contains, Contains-append_right}
use Rattle.std.proofs.lemmas.Str.{chars-append}
use Rattle.resb_format.specs.Units.{units, is_unmarked, marker, size, length_marker}
use Rattle.resb_pool.specs.Records.{EndsWith, EachOnce, IsRecord, IsRecords, IsHeldBy, IsLayout}
use Rattle.std.proofs.lemmas.Grind.{flat_map-append}
use Rattle.resb_pool.proofs.Cut.{rest_utf8}
use Rattle.resb_pool.proofs.Distinct.{cons_cases, Contains-first}
use Rattle.resb_pool.proofs.Numbers.{size_le}
use Rattle.resb_pool.proofs.Lists.{none_where_true}

module _ (f : List ℕ → ℕ) (M : List ℕ → List ℕ → Type 0) (alone : (p q r : List ℕ) → M p r → M q r
    → p ≡ q) where
  -- each of Q goes to its own member of R, which is at least as large
  pub into_least : (Q R : List (List ℕ)) → EachOnce Q
      → ((q : List ℕ) → Contains Q q → (r : List ℕ) × Contains R r × M q r × (f q ≤ f r))
      → sum_by f Q ≤ sum_by f R
  into_least [] R d goes = omega arith
  into_least (q ∷ Q) R (fresh, d) goes =
      let g = goes q (Contains-first q Q) in
      let k : ℕ = g.1.0 in
      let p : IsPermutation R (g.0 ∷ remove R k) = IsPermutation-remove R k g.0 g.1.1 (sym g.1.2) in
      let rest : sum_by f Q ≤ sum_by f (remove R k) = into_least Q (remove R k) d (λ q' in'.
      let g' = goes q' (Contains-append_right (q ∷ []) Q q' in') in
      elim (cons_cases g.0 (remove R k) g'.0 (Contains-permutation R (g.0 ∷ remove R k) g'.0 p
      g'.1)) [
        | inl e ↦ absurd (fresh (subst (λ x. Contains Q x)
            (alone q' q g.0 (subst (λ x. M q' x) (sym e) g'.2) g.2) in'))
        | inr c ↦ (g'.0, c, g'.2, g'.3)
      ]) in
      omega (arith, sum_by-cons f q Q, sum_by_popped f g.0 R (remove R k) p, g.3)

-- of two ends of one list, one is an end of the other
two_ends : (a b s t : List ℕ) → a ++ s ≡ b ++ t → EndsWith s t ⊎ EndsWith t s
two_ends [] b s t e = inl (record { front = b; is = e })
two_ends (x ∷ a) [] s t e = inr (record { front = x ∷ a; is = sym e })
two_ends (x ∷ a) (y ∷ b) s t e = two_ends a b s t (cc)

-- s is r, or lies unmarked at its end
abbrev Fits : List (List ℕ) → List ℕ → List ℕ → Type 0
Fits S s r = IsRecord S s × ((s ≡ r) ⊎ IsHeldBy s r)

-- an unmarked record is an end of no other text
last_of : (S : List (List ℕ)) (p q : List ℕ) → IsRecord S q → is_unmarked q ≡ true → Contains S p
    → EndsWith p q → p ≡ q
last_of S p q hq u hp e = elim hq.alone [ inl m ↦ cc (m, u) | inr only ↦ only p hp e ]

ends_along : (r s t : List ℕ) → r ≡ s → EndsWith r t → EndsWith s t
ends_along r s t e h = record { front = h.front; is = sym e ∙ h.is }

fits_alone : (S : List (List ℕ)) (p q r : List ℕ) → Fits S p r → Fits S q r → p ≡ q
fits_alone S p q r (hp, inl e) (hq, inl f) = e ∙ sym f
fits_alone S p q r (hp, inl e) (hq, inr h) =
    last_of S p q hq h.unmarked hp.given (ends_along r p q (sym e) h.ends)
fits_alone S p q r (hp, inr g) (hq, inl f) =
    sym (last_of S q p hp g.unmarked hq.given (ends_along r q p (sym f) g.ends))
fits_alone S p q r (hp, inr g) (hq, inr h) =
    elim (two_ends g.ends.front h.ends.front p q (sym g.ends.is ∙ h.ends.is)) [
      | inl e ↦ last_of S p q hq h.unmarked hp.given e
      | inr e ↦ sym (last_of S q p hp g.unmarked hq.given e)
    ]

-- the units of an end stand at the end
pub units_end : (t s : List ℕ) → IsUtf8 t → IsUtf8 s → (h : EndsWith t s)
    → units t ≡ units h.front ++ units s
units_end t s u v h =
    ap units h.is ∙ ap (flat_map encode_utf16)
    (chars-append h.front s (rest_utf8 t h.front s h.is u v))
    ∙ flat_map-append encode_utf16 (chars h.front) (chars s)

pub held_costs : (s r : List ℕ) → IsUtf8 r → IsUtf8 s → IsHeldBy s r → size s ≤ size r
held_costs s r u v h =
    let e : length (units r) ≡ length (units h.ends.front ++ units s) =
    ap length (units_end r s u v h.ends) in
    let f = length-append (units h.ends.front) (units s) in
    let z : length (marker s) ≡ 0 = none_where_true (is_unmarked s)
    (length_marker (length (units s))) h.unmarked in
    size_le (length (marker s)) (length (marker r)) (length (units s)) (length (units r)) z
    (omega (arith, e, f))

pub least : (S Q R : List (List ℕ)) → All IsUtf8 S → IsRecords S Q → IsLayout S R
    → sum_by size Q ≤ sum_by size R
least S Q R u q r = into_least size (Fits S) (fits_alone S) Q R q.once (λ s in'.
    let rec = (q.just s).0 in' in
    elim (r.holds s rec.given rec.nonempty) [
      | inl c ↦ (s, c, (rec, inl refl), omega arith)
      | inr (x, c, h) ↦ (
        x,
        c,
        (rec, inr h),
        held_costs s x (All-contains IsUtf8 R x r.texts c)
            (All-contains IsUtf8 S s u rec.given) h,
      )
    ])
