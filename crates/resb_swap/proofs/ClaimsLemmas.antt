-- One more word that is claimed.
use Rattle.std.proofs.Common.{◌≡◌, ◌≢◌, ℕ, ◌+◌, ◌-◌, ◌<◌, ◌≤◌, ◌⊎◌, List, length, true, false, cond}
use Rattle.std.proofs.Common.{refl, sym, ap, ◌∙◌, arith, inl, inr, set, get_or-set_same}
use Rattle.std.proofs.Common.{get_or-set_other}
use Rattle.std.proofs.lemmas.Bool.{cases_eq}
use Rattle.std.proofs.lemmas.Bool.Decides.{nat_tests}
use Rattle.std.proofs.lemmas.List.Sums.{sum_by-set}
use Rattle.std.proofs.Math.ListN.{length-set}
use Rattle.resb_swap.specs.Bodies.{is_among}
use Rattle.resb_swap.specs.Roles.{role_at}
use Rattle.resb_swap.specs.Inner.Claims.{Claimed, weight}
use Rattle.resb_swap.specs.declared.role.Role.{Role}
use Rattle.resb_swap.specs.declared.role.Role.TheVariants as role

-- a role weighs nothing
pub no_weight : (r : Role) → r ≢ role.Free → weight r ≡ 0
unfolding weight
no_weight role.Free h = absurd (h refl)
no_weight role.Bytes h = refl
no_weight role.Units h = refl
no_weight role.Words h = refl
no_weight role.OneUnit h = refl
no_weight role.Order h = refl
no_weight role.First h = refl
no_weight role.Second h = refl
no_weight role.Text h = refl
no_weight role.Binary h = refl
no_weight role.Table h = refl
no_weight role.Table32 h = refl
no_weight role.Array h = refl
no_weight role.Vector h = refl

-- what is among n numbers or the one behind them
pub among_more : (from i j : ℕ) → from ≤ i → j ≢ i
    → is_among from (i + 1 - from) j ≡ is_among from (i - from) j
among_more from i j le ne = grind (arith, nat_tests)

pub among_last : (from i : ℕ) → from ≤ i → is_among from (i + 1 - from) i ≡ true
among_last from i le = grind (arith, nat_tests)

pub not_among_yet : (from i : ℕ) → from ≤ i → is_among from (i - from) i ≡ false
not_among_yet from i le = grind (arith, nat_tests)

at_last : (old rs : List Role) (from i j : ℕ) (r : ℕ → Role) (x : Role) → x ≡ r (i - from)
    → from ≤ i → i < length rs → j ≡ i
    → role_at (set rs i x) j ≡ cond (is_among from (i + 1 - from) j) (r (j - from)) (role_at old j)
at_last old rs from i j r x e le lt same =
    rw same (get_or-set_same rs i x role.Free lt
    ∙ (e ∙ sym (ap (λ b. cond b (r (i - from)) (role_at old i)) (among_last from i le))))

kept_last : (old rs : List Role) (from i j : ℕ) (r : ℕ → Role) (x : Role) → from ≤ i
    → i < length rs → Claimed old rs from (i - from) r
    → (role_at rs i ≡ role.Free) ⊎ (role_at rs i ≡ x) → j ≡ i
    → role_at old j ≢ role.Free → role_at (set rs i x) j ≡ role_at old j
kept_last old rs from i j r x le lt c taken same had =
    let had_i : role_at old i ≢ role.Free = rw (← same) had in
    let here : role_at rs i ≡ role_at old i = c.kept i had_i in
    rw same (get_or-set_same rs i x role.Free lt ∙ elim taken [
      | inl free ↦ absurd (had_i (sym here ∙ free))
      | inr has ↦ sym has ∙ here
    ])

-- one more word that is free, or has the role, is claimed
pub claim_more : (old rs : List Role) (from i : ℕ) (r : ℕ → Role) (x : Role) → x ≡ r (i - from)
    → from ≤ i → i < length rs → x ≢ role.Free → Claimed old rs from (i - from) r
    → (role_at rs i ≡ role.Free) ⊎ (role_at rs i ≡ x)
    → Claimed old (set rs i x) from (i + 1 - from) r
claim_more old rs from i r x is le lt some c taken = record {
  as_long = length-set rs i x ∙ c.as_long;
  at = λ j. elim (cases_eq j i) [
    | inl same ↦ at_last old rs from i j r x is le lt same
    | inr other ↦ get_or-set_other rs i j x role.Free other ∙ c.at j
        ∙ ap (λ b. cond b (r (j - from)) (role_at old j)) (sym (among_more from i j le other))
  ];
  kept = λ j had. elim (cases_eq j i) [
    | inl same ↦ kept_last old rs from i j r x le lt c taken same had
    | inr other ↦ get_or-set_other rs i j x role.Free other ∙ c.kept j had
  ];
  lighter = let e = sum_by-set weight rs i x role.Free lt in
      let none : weight x ≡ 0 = no_weight x some in
      let before = c.lighter in omega (arith, e, none, before);
}
