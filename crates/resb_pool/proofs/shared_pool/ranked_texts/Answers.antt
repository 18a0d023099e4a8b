use Rattle.std.proofs.Common.{sym, ◌∙◌, ap, subst}
use Rattle.std.proofs.lemmas.Result.{IfOk-weaker}
use Rattle.resb_pool.specs.Plan.{nows}
use Rattle.resb_pool.specs.Shared.{InPoolOrder}
use Rattle.resb_pool.specs.Inner.Placing.{record_texts}
use Rattle.resb_pool.specs.declared.packing.Packing.TheVariants.{Plain}
use Rattle.resb_pool.proofs.Ranking.{in_order}
use Rattle.resb_pool.proofs.shared_pool.ranked_texts.Goals as goal

pub returns : goal.returns
returns c =
    let T = nows c.args.texts.now in
    let ms = c.args.measures.now in
    let rows = c.in_ok-rows.rows.items in
    IfOk-weaker c.texts_of_rows.result _ _
    (λ v h S small given. subst (InPoolOrder Plain S)
    (sym (h ∙ ap (record_texts T) c.deref.ensures.value))
    (in_order Plain S T ms given small rows c.in_ok-rows.ensures)) c.texts_of_rows.ensures
