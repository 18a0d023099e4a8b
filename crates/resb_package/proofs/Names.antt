-- Names that ascend one by one ascend at any distance, and are found by halving.
use Rattle.std.proofs.Common.{ℕ, List, ◌≡◌, ◌≢◌, ◌+◌, ◌<◌, inl, inr, zero, suc, sym, ap}
use Rattle.std.proofs.Common.{◌∙◌, arith}
use Rattle.std.specs.Ordering.{nat_cmp}
use Rattle.std.specs.Cmp.Lexicographic.{slice_cmp}
use Rattle.std.specs.declared.cmp.Ordering.TheVariants.{Less, Equal, Greater}
use Rattle.std.proofs.lemmas.Cmp.{nat_list_cmp_total, tied_itself}
use Rattle.std.specs.Ordering.{ordering_reverse}
use Rattle.resb_package.proofs.Lists.{le_or_lt}

pub ascend_far : (name : ℕ → List ℕ) (n : ℕ)
    → ((i : ℕ) → i + 1 < n → slice_cmp nat_cmp (name i) (name (i + 1)) ≡ Less) → (i j : ℕ) → i < j
    → j < n → slice_cmp nat_cmp (name i) (name j) ≡ Less
ascend_far name n h i zero l m = absurd (omega (arith, l))
ascend_far name n h i (suc j) l m = elim (le_or_lt j i) [
  | inl k ↦
      let same : i ≡ j = omega (arith, k, l) in
      let next : j + 1 ≡ suc j = omega arith in
      ap (λ a. slice_cmp nat_cmp (name a) (name (suc j))) same
      ∙ ap (λ a. slice_cmp nat_cmp (name j) (name a)) (sym next) ∙ h j (omega (arith, m))
  | inr k ↦
      let next : j + 1 ≡ suc j = omega arith in
      let last : slice_cmp nat_cmp (name j) (name (suc j)) ≡ Less =
      ap (λ a. slice_cmp nat_cmp (name j) (name a)) (sym next) ∙ h j (omega (arith, m)) in
      nat_list_cmp_total.trans (name i) (name j) (name (suc j))
      (ascend_far name n h i j k (omega (arith, m))) last
]

-- a text is neither below itself nor above
pub not_below : (a b : List ℕ) → slice_cmp nat_cmp a b ≡ Less → a ≢ b
not_below a b h e =
    let itself : slice_cmp nat_cmp a b ≡ Equal =
    ap (λ x. slice_cmp nat_cmp x b) e ∙ tied_itself nat_list_cmp_total b in
    let no : Less ≡ Equal = sym h ∙ itself in cc

pub not_above : (a b : List ℕ) → slice_cmp nat_cmp a b ≡ Greater → a ≢ b
not_above a b h e =
    let itself : slice_cmp nat_cmp a b ≡ Equal =
    ap (λ x. slice_cmp nat_cmp x b) e ∙ tied_itself nat_list_cmp_total b in
    let no : Greater ≡ Equal = sym h ∙ itself in cc

-- a name below one that is below the text is below it, and so above
pub still_below : (a b c : List ℕ) → slice_cmp nat_cmp a b ≡ Less → slice_cmp nat_cmp b c ≡ Less
    → slice_cmp nat_cmp a c ≡ Less
still_below a b c h k = nat_list_cmp_total.trans a b c h k

pub still_above : (a b c : List ℕ) → slice_cmp nat_cmp a b ≡ Less → slice_cmp nat_cmp a c ≡ Greater
    → slice_cmp nat_cmp b c ≡ Greater
still_above a b c h k =
    let low : slice_cmp nat_cmp c a ≡ Less = nat_list_cmp_total.antisymm c a
    ∙ ap ordering_reverse k in
    let less : slice_cmp nat_cmp c b ≡ Less = nat_list_cmp_total.trans c a b low h in
    nat_list_cmp_total.antisymm b c ∙ ap ordering_reverse less
