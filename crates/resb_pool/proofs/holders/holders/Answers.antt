use Rattle.std.proofs.Common.{ℕ, List, Bor, sym, subst}
use Rattle.std.specs.List.{All}
use Rattle.std.specs.Str.{IsUtf8}
use Rattle.std.proofs.lemmas.Result.{IfOk-weaker}
use Rattle.resb_pool.specs.Plan.{nows}
use Rattle.resb_pool.specs.Inner.Placing.{AreContainers}
use Rattle.resb_pool.specs.Inner.ToldApart.{AreTold}
use Rattle.resb_pool.proofs.Holding.{told_utf8, holders_are}
use Rattle.resb_pool.proofs.holders.holders.Goals as goal

pub find_containers-requires-clause-utf8 : goal.find_containers-requires-clause-utf8
find_containers-requires-clause-utf8 c =
    let told = c.in_ok-told.told in
    subst (λ (z : List (Bor (List ℕ))). All IsUtf8 (nows z)) (sym c.as_slice-texts.ensures.keys)
    (told_utf8 (nows c.args.strings.now) (nows told.distinct.keys) told.order.items
    c.in_ok-told.ensures)

pub returns-clause-holders : goal.returns-clause-holders
returns-clause-holders c =
    let S = nows c.args.strings.now in
    let T = nows c.as_slice-texts.result.now in
    let told = c.in_ok-told.told in
    let w = c.args.packing in
    let at : AreContainers w T c.deref.result.now =
    subst (AreContainers w T) (sym c.deref.ensures.value) c.in_ok-of.ensures.containers in
    let order : AreTold S T c.deref-2.result.now =
    subst (AreTold S T) (sym c.deref-2.ensures.value)
    (subst (λ (z : List (Bor (List ℕ))). AreTold S (nows z) told.order.items)
    (sym c.as_slice-texts.ensures.keys) c.in_ok-told.ensures) in
    IfOk-weaker c.texts_of.result _ _
    (λ v e. holders_are w S T (nows v.items) c.deref-2.result.now c.deref.result.now order at e)
    c.texts_of.ensures
