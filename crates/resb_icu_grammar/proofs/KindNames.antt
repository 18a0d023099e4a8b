-- A name is of one type.
use Rattle.std.proofs.Common.{◌≡◌, ℕ, List, Option, Some, None, ⊎_elim, sym, ap, ◌∙◌}
use Rattle.std.specs.Prelude.{codes, cond, nat_eq}
use Rattle.std.specs.Cmp.Lexicographic.{pointwise}
use Rattle.resb_icu_grammar.specs.Kinds.{Kind, Names, string_kind, alias_kind, array_kind}
use Rattle.resb_icu_grammar.specs.Kinds.{table_kind, binary_kind, integer_kind, vector_kind}

-- the type that a name is of
abbrev if_same : List ℕ → List ℕ → Kind → Option Kind → Option Kind
if_same w name kind other = cond (pointwise nat_eq w name) (Some kind) other

abbrev named_kind : List ℕ → Option Kind
named_kind w =
    if_same w (codes "string") string_kind (if_same w (codes "alias") alias_kind
    (if_same w (codes "array") array_kind (if_same w (codes "table") table_kind
    (if_same w (codes "binary") binary_kind (if_same w (codes "bin") binary_kind
    (if_same w (codes "integer") integer_kind (if_same w (codes "int") integer_kind
    (if_same w (codes "intvector") vector_kind None))))))))

names_it : (w : List ℕ) (k : Kind) → Names w k → named_kind w ≡ Some k
names_it w string_kind h = ap named_kind h
names_it w alias_kind h = ap named_kind h
names_it w array_kind h = ap named_kind h
names_it w table_kind h = ap named_kind h
names_it w binary_kind h =
    ⊎_elim (λ (e : w ≡ codes "binary"). ap named_kind e)
    (λ (e : w ≡ codes "bin"). ap named_kind e) h
names_it w integer_kind h =
    ⊎_elim (λ (e : w ≡ codes "integer"). ap named_kind e)
    (λ (e : w ≡ codes "int"). ap named_kind e) h
names_it w vector_kind h = ap named_kind h

-- a name is of one type
pub Names-one : (w : List ℕ) (k l : Kind) → Names w k → Names w l → k ≡ l
Names-one w k l p q = let e : Some k ≡ Some l = sym (names_it w k p) ∙ names_it w l q in cc
