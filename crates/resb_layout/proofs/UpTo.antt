-- Whether a key ends with bytes or stands before them, by the first place from the end where they
-- differ.
use Rattle.std.proofs.Common.{◌≡◌, ℕ, ◌-◌, ◌<◌, List, ◌++◌, length, reverse, get_or, take, drop}
use Rattle.std.proofs.Common.{nat_eq, nat_lt, min, true, false, inl, inr, sym, ◌∙◌, ap, arith}
use Rattle.std.proofs.Common.{true≢false}
use Rattle.std.specs.List.{ends_with}
use Rattle.std.specs.Cmp.{nat_cmp_is}
use Rattle.std.specs.Ordering.{is_lt}
use Rattle.std.specs.declared.cmp.Ordering.TheVariants.{Less, Greater}
use Rattle.std.proofs.lemmas.Bool.{cases_Bool, cases_lt}
use Rattle.std.proofs.lemmas.Bool.Decides.{nat_tests}
use Rattle.std.proofs.lemmas.List.{length-reverse, take_all, take-append-drop, get_or-reverse}
use Rattle.std.proofs.lemmas.List.{get_or_append_left}
use Rattle.resb_tree.specs.Maps.{text_cmp}
use Rattle.resb_layout.specs.KeyEnds.{is_before, is_up_to}
use Rattle.resb_layout.proofs.ByteOrder.{differ_here, exhausted}
use Rattle.resb_layout.proofs.KeyEndsLemmas.{ends_extends, extends_ends, up_to_cases, ends_up_to}
use Rattle.resb_layout.proofs.KeyEndsLemmas.{before_up_to}

-- up to a place the two compare as what stands from there on
abbrev pub AgreeTo : List ℕ → List ℕ → ℕ → Type 0
AgreeTo l r i = text_cmp (reverse l) (reverse r)
    ≡ text_cmp (drop i (reverse l)) (drop i (reverse r))

less_tested : (m n : ℕ) → m < n → nat_lt m n ≡ true
less_tested m n h = grind (arith, nat_tests)

more_tested : (m n : ℕ) → n < m → nat_lt m n ≡ false
more_tested m n h = grind (arith, nat_tests)

module _ (l r : List ℕ) (i : ℕ) (in_left : i < length l) (in_right : i < length r)
    (agree : AgreeTo l r i) where
  abbrev left : ℕ
  left = get_or l (length l - 1 - i) 0

  abbrev right : ℕ
  right = get_or r (length r - 1 - i) 0

  up_to_here : left < right → is_up_to r l ≡ true
  up_to_here h =
      let ne : left ≡ right → ⊥ = λ e. omega (arith, e, h) in
      before_up_to (ends_with nat_eq l r) (is_before l r) (ap is_lt (agree
      ∙ differ_here l r i in_left in_right ne ∙ sym (nat_cmp_is left right Less h)))

  -- what ends with the bytes has theirs
  shared : ends_with nat_eq l r ≡ true → left ≡ right
  shared e =
      let x = ends_extends l r e in
      sym (get_or-reverse l i 0 in_left) ∙ ap (λ s. get_or s i 0) x.is
      ∙ get_or_append_left (reverse r) x.rest 0 i (omega (arith, in_right, length-reverse r))
      ∙ get_or-reverse r i 0 in_right

  behind_here : right < left → is_up_to r l ≡ false
  behind_here h =
      let ne : left ≡ right → ⊥ = λ e. omega (arith, e, h) in
      let before : is_before l r ≡ false =
      ap is_lt (agree ∙ differ_here l r i in_left in_right ne
      ∙ sym (nat_cmp_is left right Greater h)) in
      elim (cases_Bool (is_up_to r l)) [
        | inl e ↦ elim (up_to_cases r l e) [
          | inl f ↦ absurd (ne (shared f))
          | inr f ↦ absurd (true≢false (sym f ∙ before))
        ]
        | inr e ↦ e
      ]

  pub decided_here : (left ≡ right → ⊥) → nat_lt left right ≡ is_up_to r l
  decided_here ne = elim (cases_lt left right) [
    | inl h ↦ less_tested left right h ∙ sym (up_to_here h)
    | inr h ↦
        let m : right < left = omega (arith, h, ne) in
        more_tested left right m ∙ sym (behind_here m)
  ]

-- where all bytes of the shorter one are the same
pub up_to_all : (l r : List ℕ) (i : ℕ) → i ≡ min (length l) (length r) → AgreeTo l r i
    → take i (reverse l) ≡ take i (reverse r) → is_up_to r l ≡ true
up_to_all l r i e agree front = elim (cases_lt (length l) (length r)) [
  | inl h ↦ before_up_to (ends_with nat_eq l r) (is_before l r) (ap is_lt (agree
      ∙ exhausted l r i e ∙ sym (nat_cmp_is (length l) (length r) Less h)))
  | inr h ↦ ends_up_to r l (extends_ends l r (record {
    rest = drop i (reverse l);
    is = sym (take-append-drop i (reverse l)) ∙ ap (λ t. t ++ drop i (reverse l)) (front
        ∙ take_all i (reverse r) (omega (arith, e, h, length-reverse r)));
  }))
]
