use Rattle.std.proofs.Common.{◌≡◌, ◌∷◌, ◌++◌, [], Bor, ℕ, List, length, sym, ◌∙◌, ap, subst, arith}
use Rattle.std.proofs.lemmas.List.{length-map, map_push}
use Rattle.resb_pool.specs.Plan.{nows}
use Rattle.resb_lent.specs.Inner.LentEndings.{AreLentEnds}
use Rattle.resb_lent.proofs.EndedBeside.{ends_more}
use Rattle.resb_lent.proofs.plan_with_pool.note_lacking.Goals as goal

pub returns-clause-ends : goal.returns-clause-ends
returns-clause-ends c = λ block d e st old.
    let xs = c.args.own.now.texts.items in
    let s = c.args.text.now in
    let n = c.len.result in
    let es = c.args.own.now.ended.items in
    let fs = c.note_end.new.ended.items in
    let first = λ (y : Bor (List ℕ)). y.now in
    let is : nows c.push.new.self.items ≡ nows xs ++ s ∷ [] =
    ap nows c.in_ok-push.ensures.items ∙ map_push first xs c.args.text in
    let many : length (nows xs) ≡ n = omega (arith, length-map xs first, c.len.ensures) in
    subst (λ z. AreLentEnds block z fs) (sym is)
    (ends_more block (nows xs) s n es many
    (λ k z l. omega (arith, c.requires k z l, c.len.ensures)) fs old
    (c.in_ok-note_end.ensures.ends block s d e st))
