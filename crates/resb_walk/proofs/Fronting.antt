-- Texts that are put behind others, part by part.
use Rattle.std.proofs.Common.{ℕ, List, [], ◌≡◌, ◌++◌, ◌∙◌, sym, ap, append-nil, append_assoc}
use Rattle.resb_walk.specs.Fronts.{PutsFront}

-- what begins the rest is put behind the others
pub puts_more : (old mid new text more rest whole : List ℕ) → PutsFront old mid text whole
    → whole ≡ more ++ rest → new ≡ mid ++ more → PutsFront old new text rest
puts_more old mid new text more rest whole h split put = (
  h.0 ++ more,
  put ∙ ap (λ bs. bs ++ more) h.1 ∙ append_assoc old h.0 more,
  append_assoc h.0 more rest ∙ ap (λ bs. h.0 ++ bs) (sym split) ∙ h.2,
)

-- two parts one behind the other
pub puts_both : (old mid new text whole last : List ℕ) → PutsFront old mid text whole
    → PutsFront mid new whole last → PutsFront old new text last
puts_both old mid new text whole last h g =
    puts_more old mid new text g.0 last whole h (sym g.2) g.1

-- where nothing is left, all of it stands there
pub puts_all : (old new text rest : List ℕ) → PutsFront old new text rest → rest ≡ []
    → new ≡ old ++ text
puts_all old new text rest h none =
    let whole : h.0 ≡ text = sym (append-nil h.0) ∙ ap (λ bs. h.0 ++ bs) (sym none) ∙ h.2 in
    h.1 ∙ ap (λ bs. old ++ bs) whole
