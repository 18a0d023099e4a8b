-- Lists of numbers, and how they compare: what names no word of this project.
use Rattle.std.proofs.Common.{◌≡◌, ℕ, zero, suc, ◌+◌, ◌-◌, ◌<◌, List, [], ◌∷◌, ◌++◌, length, take}
use Rattle.std.proofs.Common.{◌∙◌, ap, arith, ◌≤◌, get_or, ◌⊎◌, inl, false, refl, sym, true≢false}
use Rattle.std.proofs.Common.{nat_cmp, Bool, true, cond}
use Rattle.std.specs.Cmp.Lexicographic.{slice_cmp, nat_list_cmp_total}
use Rattle.std.specs.Ordering.{ordering_reverse, is_lt}
use Rattle.std.specs.declared.cmp.Ordering.{Ordering}
use Rattle.std.specs.declared.cmp.Ordering.TheVariants.{Less, Equal, Greater}
use Rattle.std.specs.FinMap.{slice_cmp-IsAntisymmetric, nat_cmp-IsAntisymmetric}

-- so many numbers of a list, from those before a 0 on
pub take_to_zero : (us rest : List ℕ) (n : ℕ) → length us < n
    → take n (us ++ 0 ∷ rest) ≡ us ++ 0 ∷ take (n - (length us + 1)) rest
take_to_zero [] rest zero h = absurd (omega arith)
take_to_zero [] rest (suc m) h =
    let e : m ≡ suc m - (0 + 1) = omega arith in ap (λ k. 0 ∷ take k rest) e
take_to_zero (u ∷ us) rest zero h = absurd (omega arith)
take_to_zero (u ∷ us) rest (suc m) h =
    let e : m - (length us + 1) ≡ suc m - (suc (length us) + 1) = omega arith in
    ap (λ l. u ∷ l) (take_to_zero us rest m (omega arith) ∙ ap (λ k. us ++ 0 ∷ take k rest) e)

-- the first number is out of a range also where a 0 follows the list
pub first_kept : (us rest : List ℕ) → (get_or us 0 0 ≤ 0xdbff) ⊎ (0xdfff < get_or us 0 0)
    → (get_or (us ++ 0 ∷ rest) 0 0 ≤ 0xdbff) ⊎ (0xdfff < get_or (us ++ 0 ∷ rest) 0 0)
first_kept [] rest h = inl (omega arith)
first_kept (u ∷ us) rest h = h

-- a text that is not after another one is before it, or the same
pub text_order : (s t : List ℕ) → is_lt (slice_cmp nat_cmp t s) ≡ false → (s ≡ t → ⊥)
    → slice_cmp nat_cmp s t ≡ Less
text_order s t h ne = by (slice_cmp nat_cmp t s) refl
  where
    by : (o : Ordering) → slice_cmp nat_cmp t s ≡ o → slice_cmp nat_cmp s t ≡ Less
    by Less e = absurd (true≢false (sym (ap is_lt e) ∙ h))
    by Equal e = absurd (ne (sym (slice_cmp-IsAntisymmetric nat_cmp-IsAntisymmetric t s e)))
    by Greater e = nat_list_cmp_total.antisymm s t ∙ ap ordering_reverse e

-- of two lists, each is not before the other
pub bytes_asym : (r q : List ℕ) → slice_cmp nat_cmp r q ≡ Less → slice_cmp nat_cmp q r ≡ Less → ⊥
bytes_asym r q e f =
    let g : Less ≡ ordering_reverse Less = sym e ∙ nat_list_cmp_total.antisymm r q
    ∙ ap ordering_reverse f in
    cc

-- a list that is left out where a test holds has no length there
pub none_where_true : (b : Bool) (m : List ℕ) → b ≡ true → length (cond b [] m) ≡ 0
none_where_true true m e = refl
none_where_true false m e = cc
