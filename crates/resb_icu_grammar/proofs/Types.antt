-- Where no type of a group stands, none does, and one thing is expected in its place.
use Rattle.std.proofs.Common.{◌≡◌, ℕ, List, refl, sym, ap, subst}
use Rattle.resb_icu_grammar.specs.Kinds.{Kind, Names}
use Rattle.resb_icu_grammar.specs.Words.{GroupType}
use Rattle.resb_icu_grammar.specs.Expected.{instead_of}
use Rattle.resb_icu_grammar.specs.Stuck.{TypeStuck, no_type_name, no_tree}
use Rattle.resb_icu_grammar.specs.declared.expected.IcuExpected.{IcuExpected}
use Rattle.resb_icu_grammar.proofs.Lexical.{TypeName-one}

-- where a type is missing, no group's type stands
pub no_type_there : (text : List ℕ) (at : ℕ) (x : IcuExpected) → TypeStuck text at x
    → (to : ℕ) (kind : Kind) → GroupType text at to kind → ⊥
no_type_there text at _ (no_type_name f) to kind g = f to g.name g.stands
no_type_there text at _ (no_tree end name p f) to kind g =
    f kind (subst (λ (w : List ℕ). Names w kind)
    (sym (TypeName-one text at end to name g.name p g.stands).1) g.names)

-- one thing is expected in its place
pub TypeStuck-one : (text : List ℕ) (at : ℕ) (x y : IcuExpected) → TypeStuck text at x
    → TypeStuck text at y → x ≡ y
TypeStuck-one text at _ _ (no_type_name f) (no_type_name g) = refl
TypeStuck-one text at _ _ (no_type_name f) (no_tree to name p g) = absurd (f to name p)
TypeStuck-one text at _ _ (no_tree to name p f) (no_type_name g) = absurd (g to name p)
TypeStuck-one text at _ _ (no_tree to name p f) (no_tree end word q g) =
    ap instead_of (TypeName-one text at to end name word p q).1
