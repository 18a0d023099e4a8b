use Rattle.std.proofs.Common.{◌≡◌, ◌++◌, ◌∷◌, [], List, ℕ, rules, arith, sym, subst, ap, ◌∙◌}
use Rattle.resb_swap.specs.Inner.Seen.{seen}
use Rattle.resb_swap.specs.Inner.Walk.{Walking}
use Rattle.std.proofs.lemmas.Grind.{common_steps}
use Rattle.resb_swap.proofs.WalkLemmas.{begins, found_at}
use Rattle.resb_swap.proofs.walk.roles_of.Goals as goal

pub loop-word-init : goal.loop-word-init
loop-word-init c =
    let P : List ℕ → Type 0 = λ xs. Walking (seen c.args.body) c.in_ok-roles.roles.items xs in
    let none : c.new-todo.result.items ≡ [] = search rules in
    subst P (sym (c.in_ok-push.ensures.items ∙ (ap (λ xs. xs ++ c.word.result ∷ []) none
    ∙ ap (λ w. [] ++ w ∷ []) c.word.ensures))) (begins _ _ c.in_ok-roles.ensures)

pub returns : goal.returns
returns c = found_at _ _ _ (grind (arith, common_steps, c.in_default.ensures.cases))
    c.loop-word.invariant
