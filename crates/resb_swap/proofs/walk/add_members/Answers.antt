use Rattle.std.proofs.Common.{◌+◌, sym, ap, subst, ◌∙◌, ℕ, List}
use Rattle.resb_swap.specs.Numbers.{word_in}
use Rattle.resb_swap.specs.Bodies.{middle_of}
use Rattle.resb_swap.specs.Inner.Seen.{seen}
use Rattle.resb_swap.specs.Inner.Walk.{Appends}
use Rattle.resb_swap.proofs.WalkLemmas.{appends_more}
use Rattle.resb_swap.proofs.walk.add_members.Goals as goal

pub loop-number-preserved : goal.loop-number-preserved
loop-number-preserved c =
    let f = seen c.args.body in
    let middle = c.middle_len.ensures ∙ ap (middle_of c.args.role) c.count-count.ensures in
    let is = c.word.ensures
    ∙ ap (λ (m : ℕ). word_in f (c.args.place + 1 + m + c.loop-number.number)) middle in
    let P : List ℕ → Type 0 = λ xs. Appends f c.args.todo.now.items xs c.args.role c.args.place
    (c.loop-number.number + 1) in
    subst P (sym c.in_ok-push.ensures.items) (appends_more f _ _ _ _ _ _ c.loop-number.invariant is)
