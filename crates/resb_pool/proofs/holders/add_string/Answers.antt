use Rattle.std.proofs.Common.{ℕ, List, [], ◌∷◌, ◌++◌, sym, ◌∙◌, subst, arith}
use Rattle.std.specs.Cmp.Lexicographic.{bytes_decides}
use Rattle.std.proofs.lemmas.List.{length_push}
use Rattle.resb_pool.specs.Plan.{nows}
use Rattle.resb_pool.specs.Inner.ToldApart.{AreTold}
use Rattle.resb_pool.proofs.Holding.{told_more, told_again}
use Rattle.resb_pool.proofs.Interning.{stored_at, length-nows}
use Rattle.resb_pool.proofs.holders.add_string.Goals as goal
use Rattle.resb_pool.proofs.holders.add_string.Goals.{In_ok-index}

more : (c : In_ok-index) (done : List (List ℕ))
    → AreTold done (nows c.args.told.now.distinct.keys) c.args.told.now.order.items
    → AreTold (done ++ c.args.text.now ∷ []) (nows c.insert_full.new.self.keys)
    (c.args.told.now.order.items ++ c.in_ok-index.index ∷ [])
more c done h =
    let keys = c.insert_full.new.self.keys in
    let k = c.in_ok-index.ensures.stored in
    told_more done c.args.told.now.distinct.keys keys c.args.text c.args.told.now.order.items h
    c.utf8.text c.in_ok-index.ensures.keys c.in_ok-index.index
    (omega (arith, c.in_ok-index.ensures.within, length-nows keys))
    (stored_at keys c.in_ok-index.index k.0 k.1
    ∙ sym ((bytes_decides c.args.text.now k.0.now).0 k.2))

pub overflow_cast-index : goal.overflow_cast-index
overflow_cast-index c =
    let a = (goal.at.overflow_cast-index c).In_ok-index in
    let g = c.requires.given in
    let t = more a g.0 g.1 in
    omega (
      arith,
      c.requires.few,
      c.in_ok-index.ensures.within,
      length-nows c.insert_full.new.self.keys,
      t.turns_are.few,
      length_push c.args.told.now.order.items c.in_ok-index.index,
    )

pub returns-then-is_at : goal.returns-then-is_at
returns-then-is_at c = λ done h.
    let keys = c.args.told.now.distinct.keys in
    let at = c.is_at.ensures c.if-is_at.true in
    subst (AreTold (done ++ c.args.text.now ∷ []) (nows keys)) (sym c.in_ok-push.ensures.items)
    (told_again done keys c.args.text c.args.told.now.order.items h c.utf8.text
    c.args.told.now.empty at.0 at.1)

pub returns-then-is_empty-2 : goal.returns-then-is_empty-2
returns-then-is_empty-2 c = λ done h.
    let a = (goal.at.returns-then-is_empty-2 c).In_ok-index in
    subst (AreTold (done ++ c.args.text.now ∷ []) (nows c.insert_full.new.self.keys))
    (sym c.in_ok-push-2.ensures.items) (more a done h)

pub returns-else-is_empty-2 : goal.returns-else-is_empty-2
returns-else-is_empty-2 c = λ done h.
    let a = (goal.at.returns-else-is_empty-2 c).In_ok-index in
    subst (AreTold (done ++ c.args.text.now ∷ []) (nows c.insert_full.new.self.keys))
    (sym c.in_ok-push-2.ensures.items) (more a done h)
