-- One entry taken: a `base`, a `pairs`, or another one.
use Rattle.std.proofs.Common.{ℕ, ℤ, List, ◌≡◌, inl, inr, Some, get_or}
use Rattle.std.proofs.Common.{sym, ap, subst, ◌∙◌, arith}
use Rattle.resb.specs.Places.{Place}
use Rattle.resb.specs.Leaves.{ReadsKey}
use Rattle.resb.specs.Views.{pair_bytes}
use Rattle.resb.specs.declared.binary.helpers.PairView.{PairView}
use Rattle.resb_examples.specs.Zones.{base_name, pairs_name, ReadsNumber, IsNamed}
use Rattle.resb_examples.specs.Inner.Fields.{ReadsPairView, HasTaken}
use Rattle.resb_examples.specs.declared.zones.fields.Fields.{Fields}
use Rattle.resb_examples.proofs.Costs.{one_name}

names_differ : base_name ≡ pairs_name → ⊥
names_differ e =
    let first : List ℕ → ℕ = λ s. get_or s 0 0 in
    let h : first base_name ≡ first pairs_name = ap first e in
    let k : 98 ≡ 112 = h in omega (arith, k)

module _ (e : Place
    × Place) (name : List ℕ) (k : ℕ) (key : ReadsKey e.0 name k) (old new : Fields) where
  other_name : (asked : List ℕ) → (name ≡ asked → ⊥) → IsNamed asked e → ⊥
  other_name asked differs (m, named) = differs (one_name e.0 name asked k m key named)

  pub takes_base : (x : ℤ) (n : ℕ) → ReadsNumber e.1 x n → name ≡ base_name → new.base ≡ Some x
      → new.pairs ≡ old.pairs → HasTaken e old new
  takes_base x n value is base pairs =
      let differs : name ≡ pairs_name → ⊥ = λ f. names_differ (sym is ∙ f) in
      record {
        readable =
            record {
              name = name;
              named = (k, key);
              base = λ _. (
                n,
                (x, value),
              );
              pairs = λ f. absurd (differs f);
            };
        base = inl ((k, subst (λ s. ReadsKey e.0 s k) is key), x, n, value, base);
        pairs = inr (other_name pairs_name differs, pairs);
      }

  pub takes_pairs : (v : PairView) (n : ℕ) → ReadsPairView e.1 v n → name ≡ pairs_name
      → new.pairs ≡ Some v → new.base ≡ old.base → HasTaken e old new
  takes_pairs v n value is pairs base =
      let differs : name ≡ base_name → ⊥ = λ f. names_differ (sym f ∙ is) in
      record {
        readable =
            record {
              name = name;
              named = (k, key);
              base = λ f. absurd (differs f);
              pairs = λ _. (
                n,
                (pair_bytes v, value),
              );
            };
        base = inr (other_name base_name differs, base);
        pairs = inl ((k, subst (λ s. ReadsKey e.0 s k) is key), v, n, value, pairs);
      }

  pub takes_other : (name ≡ base_name → ⊥) → (name ≡ pairs_name → ⊥) → new ≡ old
      → HasTaken e old new
  takes_other no_base no_pairs same =
      record {
        readable =
            record {
              name = name;
              named = (
                k,
                key,
              );
              base = λ f. absurd (no_base f);
              pairs = λ f. absurd (no_pairs f);
            };
        base = inr (other_name base_name no_base, ap (λ f. f.base) same);
        pairs = inr (other_name pairs_name no_pairs, ap (λ f. f.pairs) same);
      }
