-- Which check of an item is the first that fails, and the checks of all items.
use Rattle.std.proofs.Common.{ℕ, List, ◌≡◌, ◌+◌, ◌-◌, ◌<◌, ◌≤◌, length, Bool, false, zero, suc}
use Rattle.std.proofs.Common.{Some, None, Option, refl, ap, ◌∙◌, arith, nat_lt, ◌⊎◌, inl, inr}
use Rattle.std.specs.Option.{option_or}
use Rattle.std.specs.Str.{IsAscii, IsNotAscii}
use Rattle.std.proofs.lemmas.Bool.{lt-leb, le-leb, lt-ltb}
use Rattle.std.proofs.lemmas.Bool.Decides.{nat_tests}
use Rattle.resb_package.specs.Table.{name_from, item_from, item_to, name_at}
use Rattle.resb_package.specs.Checks.{item_checks, refusal_from}
use Rattle.resb_format.specs.Error.{first_refusal}
use Rattle.resb_package.specs.declared.error.PackageError.{PackageError}
use Rattle.resb_package.specs.declared.error.PackageError.TheVariants.{NameOutside, NameWithoutEnd}
use Rattle.resb_package.specs.declared.error.PackageError.TheVariants.{NameNotAscii, ItemOutside}
use Rattle.resb_package.specs.declared.error.PackageError.TheVariants.{ItemsOutOfOrder}
use Rattle.resb_package.proofs.Lists.{ascii_passes, ascii_fails, le_or_lt}

not_less : (a c : ℕ) → c ≤ a → nat_lt a c ≡ false
not_less a c h = grind (arith, nat_tests)

module _ (t : List ℕ) (i : ℕ) where
  pub name_outside : length t ≤ name_from t i
      → first_refusal (item_checks t i) ≡ Some (NameOutside i)
  unfolding item_checks
  name_outside h = rw (not_less (name_from t i) (length t) h) refl

  pub without_end : name_from t i < length t → name_at t i ≡ None
      → first_refusal (item_checks t i) ≡ Some (NameWithoutEnd i)
  unfolding item_checks
  without_end h n = rw (lt-ltb (name_from t i) (length t) h, n) refl

  module _ (h : name_from t i < length t) (name : List ℕ) (n : name_at t i ≡ Some name) where
    pub not_ascii : IsNotAscii name → first_refusal (item_checks t i) ≡ Some (NameNotAscii i)
    unfolding item_checks
    not_ascii a = rw (lt-ltb (name_from t i) (length t) h, n, ascii_fails name a) refl

    pub item_outside : IsAscii name → length t < item_from t i
        → first_refusal (item_checks t i) ≡ Some (ItemOutside i)
    unfolding item_checks
    item_outside a o =
        rw (
          lt-ltb (name_from t i) (length t) h,
          n,
          ascii_passes name a,
          lt-leb (item_from t i) (length t) o,
        ) refl

    pub items_crossed : IsAscii name → item_from t i ≤ length t → item_to t i < item_from t i
        → first_refusal (item_checks t i) ≡ Some (ItemsOutOfOrder i)
    unfolding item_checks
    items_crossed a o c =
        rw (
          lt-ltb (name_from t i) (length t) h,
          n,
          ascii_passes name a,
          le-leb (item_from t i) (length t) o,
          lt-leb (item_from t i) (item_to t i) c,
        ) refl

    pub item_holds : IsAscii name → item_from t i ≤ length t → item_from t i ≤ item_to t i
        → first_refusal (item_checks t i) ≡ None
    unfolding item_checks
    item_holds a o c =
        rw (
          lt-ltb (name_from t i) (length t) h,
          n,
          ascii_passes name a,
          le-leb (item_from t i) (length t) o,
          le-leb (item_from t i) (item_to t i) c,
        ) refl

-- the checks of all numbers, one by one
module _ (f : ℕ → List (Bool × PackageError)) where
  one_more : (i n : ℕ) → i < n
      → refusal_from f i (n - i)
      ≡ option_or (first_refusal (f i)) (refusal_from f (i + 1) (n - (i + 1)))
  unfolding refusal_from
  one_more i n h = let e : n - i ≡ suc (n - (i + 1)) = omega arith in ap (refusal_from f i) e

  pub next_number : (i n : ℕ) → i < n → first_refusal (f i) ≡ None
      → refusal_from f i (n - i) ≡ refusal_from f (i + 1) (n - (i + 1))
  next_number i n h e =
      one_more i n h ∙ ap (λ o. option_or o (refusal_from f (i + 1) (n - (i + 1)))) e

  pub stops_here : (i n : ℕ) (x : PackageError) → i < n → first_refusal (f i) ≡ Some x
      → refusal_from f i (n - i) ≡ Some x
  stops_here i n x h e =
      one_more i n h ∙ ap (λ o. option_or o (refusal_from f (i + 1) (n - (i + 1)))) e

  pub at_the_end : (i n : ℕ) → n ≤ i → refusal_from f i (n - i) ≡ None
  unfolding refusal_from
  at_the_end i n h = let e : n - i ≡ 0 = omega arith in ap (refusal_from f i) e

  none_of_two : (o p : Option PackageError) → option_or o p ≡ None → (o ≡ None) × (p ≡ None)
  none_of_two None p e = (refl, e)
  none_of_two (Some x) p e = cc

  -- where none of all fails, none of each does, and the other way round
  pub each_holds : (n from i : ℕ) → refusal_from f from n ≡ None → from ≤ i → i < from + n
      → first_refusal (f i) ≡ None
  unfolding refusal_from
  each_holds zero from i e l h = absurd (omega (arith, l, h))
  each_holds (suc n) from i e l h =
      let both = none_of_two _ _ e in
      elim (same_or_later from i l) [
        | inl s ↦ ap (λ k. first_refusal (f k)) s ∙ both.0
        | inr s ↦ each_holds n (from + 1) i both.1 s (omega (arith, h))
      ]
    where
      same_or_later : (a b : ℕ) → a ≤ b → (b ≡ a) ⊎ (a + 1 ≤ b)
      same_or_later a b h =
          elim (le_or_lt b a) [ inl k ↦ inl (omega arith) | inr k ↦ inr (omega arith) ]

  pub all_hold : (n from : ℕ)
      → ((i : ℕ) → from ≤ i → i < from + n → first_refusal (f i) ≡ None)
      → refusal_from f from n ≡ None
  unfolding refusal_from
  all_hold zero from h = refl
  all_hold (suc n) from h =
      ap (λ o. option_or o (refusal_from f (from + 1) n)) (h from (omega arith) (omega arith))
      ∙ all_hold n (from + 1) (λ i l k. h i (omega (arith, l)) (omega (arith, k)))
