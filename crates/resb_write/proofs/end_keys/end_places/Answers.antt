use Rattle.std.proofs.Common.{◌<◌, ◌∷◌, ◌++◌, [], map, ap, sym, ◌∙◌, take, arith, List, ℕ, Bor}
use Rattle.std.proofs.Common.{get_or, length}
use Rattle.std.proofs.lemmas.List.{take_all, map_push, get_or-map, length-map}
use Rattle.resb_pool.specs.Plan.{nows}
use Rattle.resb_pool.proofs.TextLoops.{blank, nows-take}
use Rattle.resb_write.specs.Inner.KeyEnds.{told_at_end}
use Rattle.resb_write.proofs.EndKeys.{end_at}
use Rattle.resb_write.proofs.end_keys.end_places.Goals as goal

pub loop-at-preserved : goal.loop-at-preserved
loop-at-preserved c = λ js place h.
    let xs = c.args.names.now in
    let i = c.loop-at.at in
    let first = λ (y : Bor (List ℕ)). y.now in
    let l : i < length xs = omega (arith, c.loop-at-test.true) in
    let told = told_at_end c.args.more place js (nows c.args.own.now) in
    let last = c.end_place.ensures js (nows c.args.own.now) place
    (end_at place js (nows xs) c.args.ends.now h i (omega (arith, l, length-map xs first)) _
    (sym (get_or-map first xs i blank [] l)) _) c.in_ok-last.ensures in
    c.in_ok-push.ensures.items
    ∙ (λ j. c.loop-at.invariant js place h j ++ last j ∷ [])
    ∙ sym (map_push told (nows (take i xs)) (get_or xs i blank).now)
    ∙ ap (map told) (sym (nows-take xs i blank l))

pub returns : goal.returns
returns c = λ js place h. c.loop-at.invariant js place h
    ∙ ap (λ l. map (told_at_end c.args.more place js (nows c.args.own.now)) (nows l))
    (take_all c.loop-at.at c.args.names.now (omega (arith, c.loop-at-test.false)))
