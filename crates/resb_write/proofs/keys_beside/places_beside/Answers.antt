use Rattle.std.proofs.Common.{map, ◌∙◌}
use Rattle.std.proofs.lemmas.Result.{IfOk-weaker}
use Rattle.resb_pool.specs.Plan.{nows}
use Rattle.resb_lent.specs.Lending.{lent_place}
use Rattle.resb_write.specs.Inner.Beside.{told_beside}
use Rattle.resb_write.proofs.keys_beside.places_beside.Goals as goal

pub returns : goal.returns
returns c = IfOk-weaker c.told_places.result _ _ (λ v h. h
    ∙ (λ i. map (λ k. told_beside (lent_place c.args.lent.now k) (c.in_ok-last.ensures k i))
    (nows c.args.keys.now))) c.told_places.ensures
